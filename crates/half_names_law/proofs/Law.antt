-- The laws, from the walk over a half.
use Rattle.std.proofs.Common.{◌≡◌, ◌++◌, ◌∙◌, ◌≤◌, ◌+◌, sym, ap, refl, subst, ℕ, zero, suc, Bool, true, false, List, [], ◌∷◌, codes, length, map, take, drop, if◌then◌else◌, Option, Some, None, arith}
use Rattle.std.specs.Prelude.{◌&&◌, ◌||◌, nat_eq, nat_le, not, slice_get, sum_by}
use Rattle.std.specs.Str.{bytes_eq}
use Rattle.std.specs.List.{list_all, filter, range_with_len}
use Rattle.std.proofs.lemmas.Bool.Decides.{nat_tests}
use Rattle.std.proofs.lemmas.List.{take-append-drop}
use Rattle.pt_base.specs.declared.int_type.IntType.{IntType}
use Rattle.pt_base.specs.declared.int_type.IntType.TheVariants as int
use Rattle.pt_base.proofs.Booleans.{and_parts}
use Rattle.pt_base.proofs.Members.{all_true_at}
use Rattle.pt_base.proofs.Numbers.{nat_eq_same}
use Rattle.pt_base.proofs.Places.{take_whole}
use Rattle.pt_tree.specs.declared.signature.Signature.{Signature}
use Rattle.type_rules.specs.Types.{is_same_int}
use Rattle.pt_tree.specs.StatementTree.{stmt_trees}
use Rattle.pt_tree.specs.ProgramTree.{ItemTree}
use Rattle.typed_tree.specs.declared.types.VarTy.{VarTy}
use Rattle.typed_tree.specs.WellFormed.{are_rising, params_lead, is_int_result}
use Rattle.typed_tree.specs.WellFormedExpression as m
use Rattle.check_declarations.specs.Structs.{Structs}
use Rattle.check_expressions.specs.Environment.{meaning_at}
use Rattle.check_statements.specs.Statements.{checked_all}
use Rattle.check_programs.specs.Blocks.{block_in}
use Rattle.check_programs.specs.Functions.{has_body, head_of, declared, declared_as, function_in, with_start, with_head}
use Rattle.check_programs.specs.Functions.{is_int}
use Rattle.check_programs.specs.Programs.{checked_items, main_faults, with_main}
use Rattle.check_programs.specs.Progress.{Progress, at_start}
use Rattle.source_meaning.specs.Expressions as sm
use Rattle.pt_core.specs.CodeTree.{GlobalTree, FunctionTree, ProgramTree}
use Rattle.pt_core.specs.Statements as c
use Rattle.pt_core.specs.WellFormed as core
use Rattle.pt_core.specs.WellFormed.{is_sound, signature_at, signature_fits, called_signature, context_of, has_main, is_main_by, is_only_start, function_by, function_fits, counts_fit, is_well_formed, is_well_formed_slave, slave_program}
use Rattle.half_trees.specs.Names.{nowhere, named, function_by as name_by}
use Rattle.half_trees.specs.Declarations.{struct_item, global_item}
use Rattle.half_trees.specs.Functions.{locals_from, body_tree, function_item}
use Rattle.half_trees.specs.Statements.{statements_trees}
use Rattle.half_trees.specs.Halves.{prototype_of, half_tree, slave_tree}
use Rattle.half_meaning_law.specs.CForms.{are_said}
use Rattle.half_meaning_law.specs.Known.{type_as, function_id, result_as}
use Rattle.half_meaning_law.specs.Statements.{BodiesKeepTheirMeaning}
use Rattle.half_names_law.specs.Declarable.{Declarable, signature_marked, has_small_frame}
use Rattle.half_names_law.specs.Standing.{Marks, own_marks, whole_marks, before, head_at, behind_head, body_state, body_context, locals_at, statements_at, scene_of, all_said}
use Rattle.half_names_law.specs.Laws.{statements_checked, one_behind, KnownIn, NamesKnown, HalfNamesAreKnown, OwnNamesAreKnown, HalvesHaveNoFault, SlavesHaveNoTypeFault, MeaningKept, HalvesKeepTheirMeaning}
use Rattle.typed_tree.proofs.SameTypes.{equal_ints}
use Rattle.half_names_law.proofs.Numbers.{lookup_place}
use Rattle.half_names_law.proofs.Table.{structs_added, then_rest}
use Rattle.half_names_law.proofs.Parameters.{Marked}
use Rattle.half_names_law.proofs.Heads.{callable_as, file_env, head_as, head_is}
use Rattle.half_names_law.proofs.Prototypes.{Rest, at}
use Rattle.half_names_law.proofs.Locals.{declaration_trees}
use Rattle.half_names_law.proofs.Definitions.{at_body, trees_joined}
use Rattle.half_names_law.proofs.Walk.{Entry, SignaturesFit, SignatureFits, items_joined, prototypes_added, globals_added}
use Rattle.half_names_law.proofs.Names.{FunctionsApart, text_name, callable_in, half_file, half_env, global_object, functions_file, function_found, function_meant}
use Rattle.half_names_law.proofs.Known.{all_known, functions_known}
use Rattle.half_names_law.proofs.Parts.{parameters_in, definition_is, variables_are, locals_declared}
use Rattle.half_names_law.proofs.Premises.{MarksSay, signature_fit, globals_fit}
use Rattle.half_names_law.proofs.Bodies.{FunctionFits, HalfFits, statements_state, scene_fits}
use Rattle.half_names_law.proofs.Functions.{Fresh, Behind, Passes, functions_added, starts_by, starts, main_after, variables_at, few_taken, few_in, eight}
use Rattle.half_names_law.proofs.Halves.{soundness, signature_there, no_table, half_structs, whole_table, half_fits, function_fit, functions_fit}
use Rattle.half_names_law.proofs.Marks.{whole_say, own_say}

-- ---- all that is declared outside of functions with bodies

abbrev nothing_yet : Rest
nothing_yet = record { functions = []; globals = []; cells = 0; exprs = []; has_main = false }

-- behind a list of items without fault
behind_items : (marks : Marks) (xs ys : List ItemTree) (st st' : Progress) → checked_items marks st xs ≡ record { progress = st'; faults = [] } → checked_items marks st (xs ++ ys) ≡ checked_items marks st' ys
behind_items marks xs ys st st' h = items_joined marks xs ys st ∙ ap (then_rest marks ys) h

signatures_fit : (marks : Marks) (monitor : Bool) (p : ProgramTree) (structs : Structs) (ss : List (ℕ × Signature)) → ((n : ℕ) (s : ℕ × Signature) → slice_get ss n ≡ Some s → SignatureFits marks monitor p structs s) → SignaturesFit marks monitor p structs ss
signatures_fit marks monitor p structs [] each = tt {0}
signatures_fit marks monitor p structs (s ∷ ss) each = (each 0 s refl, signatures_fit marks monitor p structs ss (λ n t there. each (suc n) t there))

-- the walk is there, and no function has a body
pub record DeclaredHalf (marks : Marks) (monitor : Bool) (p : ProgramTree) : Type 0 where
  pub rest : Rest
  pub walk : (items : List ItemTree) → checked_items marks at_start (map (struct_item p.structs) (range_with_len 0 (length p.structs)) ++ (map (prototype_of monitor p) p.signatures ++ (map (global_item p.structs) p.globals ++ items)))
      ≡ checked_items marks (at (half_env monitor p) (half_structs p) rest) items
  pub bodiless : (k : ℕ) → has_body rest.functions (function_id k) ≡ false
  pub long : length rest.functions ≡ length p.signatures
  pub entries : (k : ℕ) (s : ℕ × Signature) → slice_get p.signatures k ≡ Some s → Entry marks monitor p rest.functions k s
  pub globals : map (λ g. g.var.ty) rest.globals ≡ map (λ g. g.var.ty) p.globals
  pub cells : map (λ g. g.cells) rest.globals ≡ map (λ g. g.cells) p.globals

pub declared_half : (marks : Marks) (monitor : Bool) (p : ProgramTree) → is_sound monitor p ≡ true → Declarable p → MarksSay marks p → DeclaredHalf marks monitor p
declared_half marks monitor p h d say =
    let sound = soundness monitor p h in
    let whole = whole_table monitor p sound d in
    let half = half_fits monitor p h d in
    let one = structs_added marks p.structs at_start 0 (length p.structs) sound.structs (omega arith) half.apart.structs (no_table p) in
    let two = prototypes_added marks monitor p (half_structs p) p.signatures [] p.signatures nothing_yet refl half.apart.functions
    (signatures_fit marks monitor p (half_structs p) p.signatures
    (λ n s there. signature_fit marks monitor p (half_structs p) n s whole say there (all_true_at (λ t. signature_fits p.structs t.1) p.signatures n s sound.signatures there) (all_true_at (λ t. signature_marked t.1) p.signatures n s d.signature_marks there)))
    eight (record { bodiless = λ k. refl; none = refl; no_globals = refl; long = refl; entries = λ k s e. cc }) in
    let none = two.holds.none in
    let three = globals_added marks p p.signatures (map (callable_in monitor p) p.signatures) (half_structs p) p.globals [] p.globals two.rest.functions two.rest refl half.apart.globals (globals_fit p (half_structs p) p.globals whole sound.globals d.global_marks)
    (few (sum_by (λ (g : GlobalTree). length g.cells) p.globals) two.rest.cells sound.small none) (record { same = refl; types = ap (map (λ g. g.var.ty)) two.holds.no_globals; cells = ap (map (λ g. g.cells)) two.holds.no_globals }) in
    record {
      rest = three.rest;
      walk = λ items.
          behind_items marks (map (struct_item p.structs) (range_with_len 0 (length p.structs))) (map (prototype_of monitor p) p.signatures ++ (map (global_item p.structs) p.globals ++ items)) at_start (at (file_env [] [] []) (half_structs p) nothing_yet) one
          ∙ behind_items marks (map (prototype_of monitor p) p.signatures) (map (global_item p.structs) p.globals ++ items) (at (file_env [] [] []) (half_structs p) nothing_yet)
          (at (file_env (functions_file p.signatures) (map (callable_in monitor p) p.signatures) []) (half_structs p) two.rest) two.is
          ∙ (λ i. checked_items marks (at (file_env (sym (nothing_more (functions_file p.signatures)) i) (map (callable_in monitor p) p.signatures) []) (half_structs p) two.rest) (map (global_item p.structs) p.globals ++ items))
          ∙ behind_items marks (map (global_item p.structs) p.globals) items (at (file_env (functions_file p.signatures ++ []) (map (callable_in monitor p) p.signatures) []) (half_structs p) two.rest) (at (half_env monitor p) (half_structs p) three.rest) three.is;
      bodiless = λ k. ap (λ fs. has_body fs (function_id k)) three.holds.same ∙ two.holds.bodiless k;
      long = ap length three.holds.same ∙ two.holds.long;
      entries = λ k s there. subst (λ fs. Entry marks monitor p fs k s) (sym three.holds.same) (two.holds.entries k s there);
      globals = three.holds.types;
      cells = three.holds.cells;
    }
  where
    few : (all cells : ℕ) → nat_le all 1048576 ≡ true → cells ≡ 0 → cells + all ≤ 1048576
    few all cells h none = let most : all ≤ 1048576 = grind (arith, nat_tests, h) in omega (arith, most, none)

    nothing_more : {A : Type 0} (xs : List A) → xs ++ [] ≡ xs
    nothing_more [] = refl
    nothing_more (x ∷ xs) = ap (λ ys. x ∷ ys) (nothing_more xs)

-- ---- before a function

fresh_half : (marks : Marks) (monitor : Bool) (p : ProgramTree) (d : DeclaredHalf marks monitor p) (fs : List FunctionTree) → Fresh p d.rest fs
fresh_half marks monitor p d fs n f k s there at = d.bodiless k

pub passes_before : (bodies : BodiesKeepTheirMeaning) (marks : Marks) (monitor : Bool) (p : ProgramTree) (n : ℕ) (h : is_sound monitor p ≡ true) (d : Declarable p) → all_said monitor p ≡ true → (say : MarksSay marks p)
    → Passes (before marks monitor p n) (half_env monitor p) (half_structs p) (list_all (has_small_frame p) (take n p.functions) ≡ true) (Behind p (take n p.functions) (drop n p.functions) (declared_half marks monitor p h d say).rest)
passes_before bodies marks monitor p n h d said say =
    let sound = soundness monitor p h in
    let declared = declared_half marks monitor p h d say in
    let whole = take-append-drop n p.functions in
    let walk = functions_added bodies marks monitor p (half_structs p) declared.rest 0 0 (take n p.functions) (drop n p.functions) (half_fits monitor p h d) (functions_fit marks monitor p h d said say)
    (λ k f there. ap (slice_get p.functions) (none_before k) ∙ ap (λ fs. slice_get fs k) (sym whole) ∙ there)
    (subst (λ fs. are_rising 0 (map (λ g. g.id) fs) ≡ true) (sym whole) sound.order.1) (fresh_half marks monitor p declared (take n p.functions ++ drop n p.functions)) in
    let same = declared.walk (map (function_item p) (take n p.functions)) in
    record {
      rest = walk.rest;
      is = ap (λ c. c.progress) same ∙ walk.is;
      faults = λ small. ap (λ c. c.faults) same ∙ walk.faults small;
      holds = walk.holds;
    }
  where
    none_before : (k : ℕ) → 0 + k ≡ k
    none_before k = omega arith

-- ---- at a function

-- what is known where the walk stands before a function
record KnownAt (marks : Marks) (monitor : Bool) (p : ProgramTree) (f : FunctionTree) (s : Signature) (st : Progress) : Type 0 where
  head_fine : (head_at marks st p f).faults ≡ []
  result : (head_at marks st p f).callable.result ≡ result_as s.result
  locals_fine : (locals_at marks st p f).faults ≡ []
  body : (let within = behind_head marks st p f in block_in (result_as s.result) within.env within.structs (length within.exprs) (body_tree p f).items)
      ≡ one_behind (locals_at marks st p f) (statements_checked p f s (locals_at marks st p f).state)
  known : (frames : ℕ → List VarTy) (frame : sm.Frame) (calls : sm.Calls) (core_calls : c.Calls) → frames frame.depth ≡ map (λ x. x.ty) f.vars → KnownIn monitor p (scene_of p f frames frame calls core_calls) (locals_at marks st p f).state

head_there : (marks : Marks) (monitor : Bool) (p : ProgramTree) (f : FunctionTree) (s : Signature) (r : Rest) → HalfFits monitor p (half_structs p) → FunctionFits marks monitor p (half_structs p) f s
    → head_at marks (at (half_env monitor p) (half_structs p) r) p f ≡ head_as (half_env monitor p) (half_structs p) (marks (text_name (f.id, s))) (text_name (f.id, s)) s.result (parameters_in f)
head_there marks monitor p f s r half fits =
    ap (λ d. head_of (marks d.declarator.name.bytes) (half_env monitor p) (half_structs p) d) (definition_is p f s fits.named)
    ∙ head_is (marks (text_name (f.id, s))) (half_file p) (map (callable_in monitor p) p.signatures) (map global_object p.globals) (half_structs p) p.structs (text_name (f.id, s)) s (parameters_in f) (Some (body_tree p f))
    fits.declassify fits.parameters (few_in f fits.few) eight

-- the head is that of a function which was declared before
behind_there : (marks : Marks) (monitor : Bool) (p : ProgramTree) (f : FunctionTree) (s : Signature) (r : Rest) (k : ℕ) → HalfFits monitor p (half_structs p) → FunctionFits marks monitor p (half_structs p) f s → slice_get p.signatures k ≡ Some (f.id, s)
    → behind_head marks (at (half_env monitor p) (half_structs p) r) p f
    ≡ at_body (marks (text_name (f.id, s))) (half_file p) (map (callable_in monitor p) p.signatures) (map global_object p.globals) (half_structs p) r (text_name (f.id, s)) s (parameters_in f)
behind_there marks monitor p f s r k half fits place =
    let m = marks (text_name (f.id, s)) in
    let head = head_there marks monitor p f s r half fits in
    let within = at_body m (half_file p) (map (callable_in monitor p) p.signatures) (map global_object p.globals) (half_structs p) r (text_name (f.id, s)) s (parameters_in f) in
    (λ i. declared (marks (name_by f.id (fits.named i))) (with_start (with_head (at (half_env monitor p) (half_structs p) r) (head i)) (head i).callable true) (head i).callable nowhere)
    ∙ ap (λ meaning. declared_as m within (callable_as (text_name (f.id, s)) s.result (parameters_in f)) nowhere (function_in meaning))
    (ap (meaning_at (half_file p)) (function_found p.signatures p.globals k (f.id, s) half.apart.functions place) ∙ function_meant p.signatures p.globals k (f.id, s) place)

pub locals_there : (marks : Marks) (monitor : Bool) (p : ProgramTree) (f : FunctionTree) (s : Signature) (r : Rest) (k : ℕ) → HalfFits monitor p (half_structs p) → FunctionFits marks monitor p (half_structs p) f s → slice_get p.signatures k ≡ Some (f.id, s)
    → locals_at marks (at (half_env monitor p) (half_structs p) r) p f
    ≡ record { state = statements_state monitor p f (variables_at marks f s) (half_structs p) (length r.exprs); bodies = declaration_trees f.params (drop f.params f.vars); trees = []; faults = [] }
locals_there marks monitor p f s r k half fits place =
    let head = head_there marks monitor p f s r half fits in
    let behind = behind_there marks monitor p f s r k half fits place in
    (λ i. checked_all (body_context (head i).callable.result) (body_state (behind i)) (stmt_trees (locals_from p.structs f.params (drop f.params f.vars))))
    ∙ locals_declared (body_context (result_as s.result)) (half_env monitor p) (marks (text_name (f.id, s))) (half_structs p) p.structs (length r.exprs) f fits.locals fits.enough fits.small half.differ

-- a body is judged in its two parts
body_parts : (marks : Marks) (p : ProgramTree) (f : FunctionTree) (s : Signature) (st : Progress) → (head_at marks st p f).callable.result ≡ result_as s.result
    → (let within = behind_head marks st p f in block_in (result_as s.result) within.env within.structs (length within.exprs) (body_tree p f).items)
    ≡ one_behind (locals_at marks st p f) (statements_checked p f s (locals_at marks st p f).state)
unfolding block_in
body_parts marks p f s st same =
    let locals = locals_from p.structs f.params (drop f.params f.vars) in
    trees_joined locals (statements_trees p.signatures (context_of p f.vars) f.body) (body_context (result_as s.result)) (body_state (behind_head marks st p f))
    ∙ (λ i. one_behind (checked_all (body_context (sym same i)) (body_state (behind_head marks st p f)) (stmt_trees locals))
    (statements_checked p f s (checked_all (body_context (sym same i)) (body_state (behind_head marks st p f)) (stmt_trees locals)).state))

known_at : (marks : Marks) (monitor : Bool) (p : ProgramTree) (f : FunctionTree) (s : Signature) (r : Rest) → HalfFits monitor p (half_structs p) → FunctionFits marks monitor p (half_structs p) f s → KnownAt marks monitor p f s (at (half_env monitor p) (half_structs p) r)
known_at marks monitor p f s r half fits =
    let place = lookup_place p.signatures f.id s fits.named in
    let head = head_there marks monitor p f s r half fits in
    let locals = locals_there marks monitor p f s r place.place half fits place.there in
    let result : (head_at marks (at (half_env monitor p) (half_structs p) r) p f).callable.result ≡ result_as s.result = ap (λ h. h.callable.result) head in
    record {
      head_fine = ap (λ h. h.faults) head;
      result = result;
      locals_fine = ap (λ l. l.faults) locals;
      body = body_parts marks p f s (at (half_env monitor p) (half_structs p) r) result;
      known = λ frames frame calls core_calls same.
          subst (KnownIn monitor p (scene_of p f frames frame calls core_calls)) (sym (ap (λ l. l.state) locals))
          (record {
            fits = scene_fits monitor p (half_structs p) f frames frame calls core_calls half same;
            known = all_known monitor p f frames frame calls core_calls (variables_at marks f s) (half_structs p) (variables_are (marks (text_name (f.id, s))) f) fits.small half.differ half.apart half.plain half.table half.structs_fit;
            functions = functions_known monitor p f frames frame calls core_calls (variables_at marks f s) half.apart;
          });
    }

names_known : (bodies : BodiesKeepTheirMeaning) (marks : Marks) (monitor : Bool) (p : ProgramTree) (n : ℕ) (f : FunctionTree) (s : Signature) → is_sound monitor p ≡ true → Declarable p → all_said monitor p ≡ true → MarksSay marks p
    → slice_get p.functions n ≡ Some f → signature_at p f.id ≡ Some s → NamesKnown marks monitor p n f s
names_known bodies marks monitor p n f s h d said say there named =
    let passes = passes_before bodies marks monitor p n h d said say in
    let known = subst (KnownAt marks monitor p f s) (sym passes.is) (known_at marks monitor p f s passes.rest (half_fits monitor p h d) (function_fit marks monitor p n f s h d said say there named)) in
    record { before_fine = passes.faults; head_fine = known.head_fine; result = known.result; locals_fine = known.locals_fine; body = known.body; known = known.known }

-- ---- the laws

pub functions_differ : (monitor : Bool) (p : ProgramTree) → is_sound monitor p ≡ true → Declarable p → FunctionsApart p.signatures
functions_differ monitor p h d = (half_fits monitor p h d).apart.functions

pub half_names : BodiesKeepTheirMeaning → HalfNamesAreKnown
half_names bodies monitor p n f s h d said there named =
    names_known bodies (whole_marks monitor p) monitor p n f s h d said (whole_say monitor p (soundness monitor p h) (functions_differ monitor p h d)) there named

pub own_names : BodiesKeepTheirMeaning → OwnNamesAreKnown
own_names bodies monitor p n f s h d said plain there named =
    names_known bodies (own_marks monitor p) monitor p n f s h d said (own_say monitor p (soundness monitor p h) (functions_differ monitor p h d) plain) there named

-- the walk over the whole half
no_fault : (bodies : BodiesKeepTheirMeaning) (marks : Marks) (monitor : Bool) (p : ProgramTree) → is_sound monitor p ≡ true → Declarable p → all_said monitor p ≡ true → MarksSay marks p → list_all (has_small_frame p) p.functions ≡ true
    → (checked_items marks at_start (half_tree monitor p)).faults ≡ []
no_fault bodies marks monitor p h d said say small =
    let passes = passes_before bodies marks monitor p (length p.functions) h d said say in
    let all = take_whole p.functions in
    subst (λ fs. (checked_items marks at_start (map (struct_item p.structs) (range_with_len 0 (length p.structs)) ++ (map (prototype_of monitor p) p.signatures ++ (map (global_item p.structs) p.globals ++ map (function_item p) fs)))).faults ≡ []) all
    (passes.faults (subst (λ fs. list_all (has_small_frame p) fs ≡ true) (sym all) small))

pub no_faults : BodiesKeepTheirMeaning → HalvesHaveNoFault
no_faults bodies monitor p h d said small =
    let sound = soundness monitor p h in
    let apart = functions_differ monitor p h d in (
      no_fault bodies (whole_marks monitor p) monitor p h d said (whole_say monitor p sound apart) small,
      λ plain. no_fault bodies (own_marks monitor p) monitor p h d said (own_say monitor p sound apart plain) small,
    )

meaning_kept : (bodies : BodiesKeepTheirMeaning) (marks : Marks) (monitor : Bool) (p : ProgramTree) (n : ℕ) (f : FunctionTree) (s : Signature) → is_sound monitor p ≡ true → all_said monitor p ≡ true → slice_get p.functions n ≡ Some f → signature_at p f.id ≡ Some s
    → NamesKnown marks monitor p n f s → MeaningKept marks monitor p n f s
meaning_kept bodies marks monitor p n f s h said there named known frames frame calls core_calls same alike =
    let here = known.known frames frame calls core_calls same in
    bodies monitor p n f s (scene_of p f frames frame calls core_calls) (body_context (result_as s.result)) (statements_at marks monitor p n f) h there named here.fits refl alike here.known here.functions refl
    (all_true_at (λ g. are_said (context_of p g.vars) (called_signature monitor p) g.body) p.functions n f said there)

-- ---- main

main_stays : (p : ProgramTree) (fs : List FunctionTree) → main_after p true fs ≡ true
main_stays p [] = refl
main_stays p (f ∷ fs) = ap (λ b. main_after p b fs) (or_true (starts p f)) ∙ main_stays p fs
  where
    or_true : (a : Bool) → (a || true) ≡ true
    or_true true = refl
    or_true false = refl

-- where one of the functions starts, main is there
main_there : (p : ProgramTree) (b : Bool) (fs : List FunctionTree) (n : ℕ) (f : FunctionTree) → slice_get fs n ≡ Some f → starts p f ≡ true → main_after p b fs ≡ true
main_there p b [] n f h is = cc
main_there p b (g ∷ gs) zero f h is = ap (λ a. main_after p (a || b) gs) (ap (starts p) (same h) ∙ is) ∙ main_stays p gs
  where
    same : Some g ≡ Some f → g ≡ f
    same e = cc
main_there p b (g ∷ gs) (suc n) f h is = main_there p (starts p g || b) gs n f h is

-- the only function among these that passes a test stands among all
filtered : (q : FunctionTree → Bool) (fs : List FunctionTree) (f : FunctionTree) (n : ℕ) → slice_get (filter q fs) n ≡ Some f → (k : ℕ) × (slice_get fs k ≡ Some f) × (q f ≡ true)
filtered q [] f n h = cc
filtered q (g ∷ gs) f n h = go (q g) refl n h (λ k e. filtered q gs f k e)
  where
    go : (b : Bool) → q g ≡ b → (n : ℕ) → slice_get (if b then g ∷ filter q gs else filter q gs) n ≡ Some f → ((k : ℕ) → slice_get (filter q gs) k ≡ Some f → (j : ℕ) × (slice_get gs j ≡ Some f) × (q f ≡ true)) → (k : ℕ) × (slice_get (g ∷ gs) k ≡ Some f) × (q f ≡ true)
    go true is zero e again = (0, e, ap q (sym (same e)) ∙ is)
      where
        same : Some g ≡ Some f → g ≡ f
        same e = cc
    go true is (suc n) e again = let found = again n e in (suc found.0, found.1, found.2)
    go false is n e again = let found = again n e in (suc found.0, found.1, found.2)

start_found : (p : ProgramTree) (fs : List FunctionTree) → is_only_start p fs ≡ true → (f : FunctionTree) × (slice_get fs 0 ≡ Some f) × (core.starts_by (signature_at p f.id) ≡ true)
start_found p [] h = cc
start_found p (f ∷ []) h = (f, refl, h)
start_found p (f ∷ (g ∷ rest)) h = cc

-- what is called main, and may be started, is a start for the judgments
begins : (f : FunctionTree) (s : Signature) → m.is_main s ≡ true → is_int_result s.result ≡ true → length (parameters_in f) ≡ 0 → starts_by f (Some s) ≡ true
begins f s main result none = by_parts (is_main_name s main) (int_result s.result result) (no_params (parameters_in f) none)
  where
    by_parts : bytes_eq (text_name (f.id, s)) (codes "main") ≡ true → is_int (result_as s.result) ≡ true → nat_eq (length (map (λ q. type_as q.ty) (parameters_in f))) 0 ≡ true → starts_by f (Some s) ≡ true
    by_parts p q r = λ i. p i && (true && (q i && r i))

    is_main_name : (s : Signature) → m.is_main s ≡ true → bytes_eq (text_name (f.id, s)) (codes "main") ≡ true
    is_main_name s e = ap (λ b. bytes_eq (if b then codes "main" else named (codes "f_") f.id (Some s.name)) (codes "main")) e

    int_result : (o : Option IntType) → is_int_result o ≡ true → is_int (result_as o) ≡ true
    int_result None e = cc
    int_result (Some t) e = ap (λ r. is_same_int r int.Int) (equal_ints t int.Int e)

    no_params : (qs : List Marked) → length qs ≡ 0 → nat_eq (length (map (λ q. type_as q.ty) qs)) 0 ≡ true
    no_params [] e = refl
    no_params (q ∷ qs) e = absurd (omega (arith, e))

slave_starts : (p : ProgramTree) (b : Bool) → is_sound false p ≡ true → has_main p ≡ true → main_after p b p.functions ≡ true
slave_starts p b h main =
    let sound = soundness false p h in
    let only = start_found p (filter (λ g. is_main_by (signature_at p g.id)) p.functions) main in
    let f = only.0 in
    let among = filtered (λ g. is_main_by (signature_at p g.id)) p.functions f 0 only.1 in
    let fits = all_true_at (function_fits false p) p.functions among.0 f sound.functions among.1 in
    let s = signature_there false p f fits in
    let named = sym (ap is_main_by s.1) ∙ among.2 in
    let start = and_parts (is_int_result s.0.result) (nat_eq (length s.0.params) 0) (sym (ap core.starts_by s.1) ∙ only.2) in
    let own = and_parts (not s.0.host && (counts_fit false f.params (length s.0.params) && params_lead (take f.params s.0.params) f.vars)) _ (sym (ap (function_by false p f) s.1) ∙ fits) in
    let count = and_parts (counts_fit false f.params (length s.0.params)) _ (and_parts (not s.0.host) _ own.0).1 in
    main_there p b p.functions among.0 f among.1 (ap (starts_by f) s.1 ∙ begins f s.0 named start.0 (none_taken f (length s.0.params) count.0 start.1))
  where
    none_taken : (f : FunctionTree) (n : ℕ) → nat_eq f.params n ≡ true → nat_eq n 0 ≡ true → length (parameters_in f) ≡ 0
    none_taken f n e none = let less = few_taken f.params f.vars in let same = nat_eq_same f.params n e in let zero_n = nat_eq_same n 0 none in omega (arith, less, same, zero_n)

with_main_fine : (bodies : BodiesKeepTheirMeaning) (marks : Marks) (p : ProgramTree) → is_sound false p ≡ true → has_main p ≡ true → Declarable p → all_said false p ≡ true → MarksSay marks p → list_all (has_small_frame p) p.functions ≡ true
    → (with_main (checked_items marks at_start (half_tree false p))).faults ≡ []
with_main_fine bodies marks p h main d said say small =
    let passes = passes_before bodies marks false p (length p.functions) h d said say in
    let all = take_whole p.functions in
    subst (λ fs. (with_main (checked_items marks at_start (map (struct_item p.structs) (range_with_len 0 (length p.structs)) ++ (map (prototype_of false p) p.signatures ++ (map (global_item p.structs) p.globals ++ map (function_item p) fs))))).faults ≡ []) all
    (λ i. passes.faults (subst (λ fs. list_all (has_small_frame p) fs ≡ true) (sym all) small) i
    ++ main_faults ((ap (λ st. st.has_main) passes.is ∙ passes.holds.main ∙ subst (λ fs. main_after p (declared_half marks false p h d say).rest.has_main fs ≡ true) (sym all) (slave_starts p (declared_half marks false p h d say).rest.has_main h main)) i))

pub slaves_fine : BodiesKeepTheirMeaning → SlavesHaveNoTypeFault
unfolding is_well_formed_slave is_well_formed slave_tree
slaves_fine bodies s h d said small =
    let p = slave_program s in
    let parts = and_parts (is_sound false p) (has_main p) h in
    let sound = soundness false p parts.0 in
    let apart = functions_differ false p parts.0 d in (
      with_main_fine bodies (whole_marks false p) p parts.0 parts.1 d said (whole_say false p sound apart) small,
      λ plain. with_main_fine bodies (own_marks false p) p parts.0 parts.1 d said (own_say false p sound apart plain) small,
    )

pub meanings : BodiesKeepTheirMeaning → HalvesKeepTheirMeaning
meanings bodies monitor p n f s h d said there named = (
  meaning_kept bodies (whole_marks monitor p) monitor p n f s h said there named (half_names bodies monitor p n f s h d said there named),
  λ plain. meaning_kept bodies (own_marks monitor p) monitor p n f s h said there named (own_names bodies monitor p n f s h d said plain there named),
)
