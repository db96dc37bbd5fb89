-- The walk over the functions with bodies of a half.
use Rattle.std.proofs.Common.{◌≡◌, ◌++◌, ◌∙◌, ◌≤◌, ◌+◌, sym, ap, refl, ℕ, zero, suc, Bool, true, false, List, [], ◌∷◌, length, map, take, drop, Option, Some, None, arith}
use Rattle.std.specs.Prelude.{◌&&◌, ◌||◌, nat_le, nat_lt, not, is_some, slice_get, slice_set, sum_by, if◌then◌else◌}
use Rattle.std.specs.Option.{option_map_or}
use Rattle.std.specs.List.{list_all}
use Rattle.std.proofs.lemmas.Bool.Decides.{nat_tests}
use Rattle.std.proofs.lemmas.List.{append_assoc}
use Rattle.std.proofs.lemmas.List.Sums.{sum_by-cons}
use Rattle.pt_base.proofs.Booleans.{and_parts}
use Rattle.pt_base.proofs.Lists.{append_nil}
use Rattle.pt_base.proofs.Places.{get_mapped}
use Rattle.pt_tree.specs.declared.signature.Signature.{Signature}
use Rattle.pt_tree.specs.StatementTree.{StmtTrees, stmt_trees}
use Rattle.typed_tree.specs.declared.variable.Var.{Var}
use Rattle.typed_tree.specs.StatementTree.{BodyTree, block, body_trees}
use Rattle.typed_tree.specs.ExpressionTree.{ExprTree}
use Rattle.typed_tree.specs.TypedTree as typed
use Rattle.typed_tree.specs.WellFormed.{are_rising}
use Rattle.check_declarations.specs.declared.fault.FaultKind.TheVariants.{TooLarge}
use Rattle.check_declarations.specs.declared.fault.TypeFault.{TypeFault}
use Rattle.check_declarations.specs.Cells.{cells_of}
use Rattle.check_declarations.specs.Faults.{fault_if}
use Rattle.check_declarations.specs.Structs.{Structs}
use Rattle.check_expressions.specs.declared.meaning.Variable.{Variable}
use Rattle.check_expressions.specs.Environment.{Env, object_of}
use Rattle.check_statements.specs.declared.context.Context as k
use Rattle.check_statements.specs.Outermost as o
use Rattle.check_statements.specs.Statements.{CheckedAll, checked_all}
use Rattle.check_programs.specs.declared.function_marks.FunctionMarks.{FunctionMarks}
use Rattle.check_programs.specs.Blocks.{block_in}
use Rattle.check_programs.specs.Functions as fn
use Rattle.check_programs.specs.Functions.{Checked, has_body, with_parts, with_body, behind_body, are_too_large, is_start, checked_function}
use Rattle.check_programs.specs.Progress.{Progress}
use Rattle.check_programs.specs.Programs.{checked_item, checked_items, function_name}
use Rattle.pt_core.specs.CodeTree.{FunctionTree, ProgramTree}
use Rattle.pt_core.specs.WellFormed.{signature_at, with_own}
use Rattle.half_trees.specs.Names.{nowhere, local_name}
use Rattle.half_trees.specs.Functions.{locals_from, body_tree, function_item}
use Rattle.half_meaning_law.specs.Known.{type_as, object_as, function_id, result_as}
use Rattle.half_meaning_law.specs.Statements.{BodiesKeepTheirMeaning, advanced}
use Rattle.half_names_law.specs.Declarable.{variable_cells, has_small_frame}
use Rattle.half_names_law.specs.Standing.{Marks, body_context}
use Rattle.half_names_law.proofs.Tables.{Differ}
use Rattle.half_names_law.proofs.TextNames.{locals_differ}
use Rattle.half_names_law.proofs.Parameters.{names_of, variables_of, scoped}
use Rattle.half_names_law.proofs.Heads.{callable_as}
use Rattle.half_names_law.proofs.Prototypes.{Rest, at, marked_param}
use Rattle.half_names_law.proofs.Locals.{declaration_trees}
use Rattle.half_names_law.proofs.Definitions.{at_body, definition_added, trees_joined}
use Rattle.half_names_law.proofs.Numbers.{lookup_place, once_there}
use Rattle.half_names_law.proofs.Table.{then_rest}
use Rattle.half_names_law.proofs.Names.{text_name, callable_in, half_file, half_env, global_object, function_found, function_meant}
use Rattle.half_names_law.proofs.Parts.{marked_var, parameters_in, definition_is, half_variables, variables_are, locals_declared}
use Rattle.half_names_law.proofs.Bodies.{FunctionFits, HalfFits, statements_state, statements_of, statements_quiet}

-- ---- one function

-- where its body stands
abbrev pub body_at : Marks → Bool → ProgramTree → Structs → Rest → FunctionTree → Signature → Progress
body_at marks monitor p structs r f s =
    at_body (marks (text_name (f.id, s))) (half_file p) (map (callable_in monitor p) p.signatures) (map global_object p.globals) structs r (text_name (f.id, s)) s (parameters_in f)

abbrev pub variables_at : Marks → FunctionTree → Signature → List Variable
variables_at marks f s = half_variables (marks (text_name (f.id, s))) f

-- its statements, where they stand
abbrev pub checked_statements : Marks → Bool → ProgramTree → Structs → ℕ → FunctionTree → Signature → CheckedAll
checked_statements marks monitor p structs next f s =
    checked_all (body_context (result_as s.result)) (statements_state monitor p f (variables_at marks f s) structs next) (stmt_trees (statements_of p f))

callable_there : (monitor : Bool) (p : ProgramTree) (marks : Marks) (structs : Structs) (f : FunctionTree) (s : Signature) (k : ℕ) → FunctionFits marks monitor p structs f s → slice_get p.signatures k ≡ Some (f.id, s)
    → slice_get (map (callable_in monitor p) p.signatures) k ≡ Some (callable_as (text_name (f.id, s)) s.result (parameters_in f))
callable_there monitor p marks structs f s k fits there =
    get_mapped (callable_in monitor p) p.signatures k (f.id, s) there
    ∙ ap (λ g. Some (callable_as (text_name (f.id, s)) (with_own monitor g s).result (map marked_param (with_own monitor g s).params))) fits.found
    ∙ (λ i. Some (record { name = text_name (f.id, s); result = result_as (own_result monitor f s i); params = sym fits.types i }))
  where
    own_result : (monitor : Bool) (f : FunctionTree) (s : Signature) → (with_own monitor (Some f) s).result ≡ s.result
    own_result monitor f s = go (monitor && not s.host)
      where
        go : (b : Bool) → (if b then record s { params = take f.params s.params } else s).result ≡ s.result
        go true = refl
        go false = refl

-- the whole body: the variables' declarations, then the statements
abbrev pub whole_body : FunctionTree → o.State → CheckedAll → CheckedAll
whole_body f st all = record { state = advanced st (length all.trees); bodies = declaration_trees f.params (drop f.params f.vars) ++ all.bodies; trees = all.trees; faults = [] }

abbrev behind : k.Context → StmtTrees → CheckedAll → CheckedAll
behind c ss one =
    let rest = checked_all c one.state ss in
    record { state = rest.state; bodies = one.bodies ++ rest.bodies; trees = one.trees ++ rest.trees; faults = one.faults ++ rest.faults }

body_is : (bodies : BodiesKeepTheirMeaning) (marks : Marks) (monitor : Bool) (p : ProgramTree) (structs : Structs) (n : ℕ) (f : FunctionTree) (s : Signature) (next : ℕ) → HalfFits monitor p structs → FunctionFits marks monitor p structs f s → slice_get p.functions n ≡ Some f
    → block_in (result_as s.result) (scoped (half_env monitor p) (names_of (parameters_in f)) (variables_of (marks (text_name (f.id, s))) (parameters_in f))) structs next (body_tree p f).items
    ≡ whole_body f (statements_state monitor p f (variables_at marks f s) structs next) (checked_statements marks monitor p structs next f s)
unfolding block_in
body_is bodies marks monitor p structs n f s next half fits there =
    let c = body_context (result_as s.result) in
    let m = marks (text_name (f.id, s)) in
    let quiet = statements_quiet bodies marks monitor p structs n f s next (variables_at marks f s) half fits there (variables_are m f) in
    trees_joined (locals_from p.structs f.params (drop f.params f.vars)) (statements_of p f) c (record { env = scoped (half_env monitor p) (names_of (parameters_in f)) (variables_of m (parameters_in f)); structs = structs; next = next })
    ∙ ap (behind c (stmt_trees (statements_of p f))) (locals_declared c (half_env monitor p) m structs p.structs next f fits.locals fits.enough fits.small half.differ)
    ∙ (λ i. record {
      state = quiet.state i;
      bodies = declaration_trees f.params (drop f.params f.vars) ++ (checked_statements marks monitor p structs next f s).bodies;
      trees = (checked_statements marks monitor p structs next f s).trees;
      faults = quiet.fine i;
    })

-- what the function's definition makes besides names
abbrev pub with_function : Marks → Bool → ProgramTree → Structs → Rest → FunctionTree → Signature → ℕ → Rest
with_function marks monitor p structs r f s k =
    let all = checked_statements marks monitor p structs (length r.exprs) f s in
    record {
      functions = with_body r.functions k nowhere (map fn.var_of (variables_at marks f s)) (block nowhere (body_trees (declaration_trees f.params (drop f.params f.vars) ++ all.bodies)));
      globals = r.globals;
      cells = r.cells;
      exprs = r.exprs ++ all.trees;
      has_main = is_start (callable_as (text_name (f.id, s)) s.result (parameters_in f)) true || r.has_main;
    }

-- its only fault may be that its variables are too large together
abbrev pub frame_faults : Marks → Structs → FunctionTree → Signature → List TypeFault
frame_faults marks structs f s = [] ++ fault_if (are_too_large structs (variables_at marks f s)) TooLarge nowhere

abbrev by_body : Marks → Bool → ProgramTree → Structs → Rest → FunctionTree → Signature → ℕ → CheckedAll → Checked
by_body marks monitor p structs r f s k all = record {
  progress = behind_body (body_at marks monitor p structs r f s) k nowhere nowhere all;
  faults = all.faults ++ fault_if (are_too_large all.state.structs all.state.env.variables) TooLarge nowhere;
}

pub few_taken : (n : ℕ) (xs : List Var) → length (map marked_var (take n xs)) ≤ n
few_taken zero xs = omega arith
few_taken (suc n) [] = omega arith
few_taken (suc n) (x ∷ xs) = let again = few_taken n xs in omega (arith, again)

pub few_in : (f : FunctionTree) → f.params ≤ 8 → length (parameters_in f) ≤ 8
few_in f low = let less = few_taken f.params f.vars in omega (arith, less, low)

pub eight : Differ local_name 8
eight = locals_differ 8 (omega arith)

pub function_added : (bodies : BodiesKeepTheirMeaning) (marks : Marks) (monitor : Bool) (p : ProgramTree) (structs : Structs) (r : Rest) (n : ℕ) (f : FunctionTree) (s : Signature) (k : ℕ)
    → HalfFits monitor p structs → FunctionFits marks monitor p structs f s → slice_get p.functions n ≡ Some f → slice_get p.signatures k ≡ Some (f.id, s) → has_body r.functions (function_id k) ≡ false
    → checked_item (marks (function_name (function_item p f))) (at (half_env monitor p) structs r) (function_item p f)
    ≡ record { progress = at (half_env monitor p) structs (with_function marks monitor p structs r f s k); faults = frame_faults marks structs f s }
function_added bodies marks monitor p structs r n f s k half fits there place fresh =
    ap (λ d. checked_function (marks d.declarator.name.bytes) (at (half_env monitor p) structs r) d) (definition_is p f s fits.named)
    ∙ definition_added (marks (text_name (f.id, s))) (half_file p) (map (callable_in monitor p) p.signatures) (map global_object p.globals) structs r p.structs (text_name (f.id, s)) s (parameters_in f) (body_tree p f) k k
    fits.declassify fits.parameters (few_in f fits.few) eight (function_found p.signatures p.globals k (f.id, s) half.apart.functions place) (function_meant p.signatures p.globals k (f.id, s) place)
    (callable_there monitor p marks structs f s k fits place) fresh
    ∙ ap (by_body marks monitor p structs r f s k) (body_is bodies marks monitor p structs n f s (length r.exprs) half fits there)

-- ---- bodies that are still to come

-- none of these functions has its body yet
abbrev pub Fresh : ProgramTree → Rest → List FunctionTree → Type 0
Fresh p r fs = (n : ℕ) (f : FunctionTree) (k : ℕ) (s : Signature) → slice_get fs n ≡ Some f → slice_get p.signatures k ≡ Some (f.id, s) → has_body r.functions (function_id k) ≡ false

set_other : (fs : List typed.FunctionTree) (k j : ℕ) (x : typed.FunctionTree) → (j ≡ k → ⊥) → slice_get (slice_set fs k x) j ≡ slice_get fs j
set_other [] k j x other = refl
set_other (f ∷ fs) zero zero x other = absurd (other refl)
set_other (f ∷ fs) zero (suc j) x other = refl
set_other (f ∷ fs) (suc k) zero x other = refl
set_other (f ∷ fs) (suc k) (suc j) x other = set_other fs k j x (λ e. other (ap suc e))

body_other : (fs : List typed.FunctionTree) (k j : ℕ) (vars : List Var) (b : BodyTree) → (j ≡ k → ⊥) → has_body (with_body fs k nowhere vars b) (function_id j) ≡ has_body fs (function_id j)
body_other fs k j vars b other = go (slice_get fs k)
  where
    go : (o : Option typed.FunctionTree) → has_body (option_map_or (λ f. slice_set fs k (with_parts f nowhere vars b)) o fs) (function_id j) ≡ has_body fs (function_id j)
    go None = refl
    go (Some f) = ap (λ o. option_map_or (λ g. is_some g.body) o false) (set_other fs k j (with_parts f nowhere vars b) other)

pub same_first : (x y : ℕ × Signature) → Some x ≡ Some y → x.0 ≡ y.0
same_first x y e = ap (λ z. z.0) (same e)
  where
    same : Some x ≡ Some y → x ≡ y
    same e = cc

pub still_fresh : (marks : Marks) (monitor : Bool) (p : ProgramTree) (structs : Structs) (r : Rest) (f : FunctionTree) (fs : List FunctionTree) (s : Signature) (k first : ℕ) → are_rising first (map (λ g. g.id) (f ∷ fs)) ≡ true → slice_get p.signatures k ≡ Some (f.id, s) → Fresh p r (f ∷ fs)
    → Fresh p (with_function marks monitor p structs r f s k) fs
still_fresh marks monitor p structs r f fs s k first rise place fresh n g j t there named =
    body_other r.functions k j _ _ apart ∙ fresh (suc n) g j t there named
  where
    apart : j ≡ k → ⊥
    apart e =
        let same : g.id ≡ f.id = same_first (g.id, t) (f.id, s) (sym named ∙ ap (slice_get p.signatures) e ∙ place) in
        let places = once_there first (map (λ x. x.id) (f ∷ fs)) 0 (suc n) f.id rise refl (get_mapped (λ x. x.id) fs n g there ∙ ap Some same) in omega (arith, places)

-- ---- all functions

-- the walk gets there, without a fault where this holds
pub record Passes (c : Checked) (env : Env) (structs : Structs) (fine : Type 0) (P : Rest → Type 0) : Type 0 where
  pub rest : Rest
  pub is : c.progress ≡ at env structs rest
  pub faults : fine → c.faults ≡ []
  pub holds : P rest

-- what is asked of each function, with its signature
pub record Fitting (marks : Marks) (monitor : Bool) (p : ProgramTree) (structs : Structs) (f : FunctionTree) : Type 0 where
  pub signature : Signature
  pub fits : FunctionFits marks monitor p structs f signature

abbrev pub FunctionsFit : Marks → Bool → ProgramTree → Structs → Type 0
FunctionsFit marks monitor p structs = (n : ℕ) (f : FunctionTree) → slice_get p.functions n ≡ Some f → Fitting marks monitor p structs f

pub types_of : (m : FunctionMarks) (f : FunctionTree) → map (λ v. v.ty) (half_variables m f) ≡ map (λ x. type_as x.ty) f.vars
types_of m f = sym (fused (half_variables m f)) ∙ ap (map (λ o. o.ty)) (variables_are m f) ∙ again f.vars
  where
    fused : (ys : List Variable) → map (λ o. o.ty) (map object_of ys) ≡ map (λ v. v.ty) ys
    fused [] = refl
    fused (y ∷ ys) = ap (λ ts. y.ty ∷ ts) (fused ys)

    again : (xs : List Var) → map (λ o. o.ty) (map (λ x. object_as x.ty) xs) ≡ map (λ x. type_as x.ty) xs
    again [] = refl
    again (x ∷ xs) = ap (λ ts. type_as x.ty ∷ ts) (again xs)

sum_types : (structs : Structs) (ys : List Variable) → sum_by (λ v. cells_of structs v.ty) ys ≡ sum_by (cells_of structs) (map (λ v. v.ty) ys)
sum_types structs [] = refl
sum_types structs (y ∷ ys) = sum_by-cons (λ (v : Variable). cells_of structs v.ty) y ys ∙ ap (λ n. cells_of structs y.ty + n) (sum_types structs ys) ∙ sym (sum_by-cons (cells_of structs) y.ty (map (λ v. v.ty) ys))

sum_vars : (structs : Structs) (xs : List Var) → sum_by (λ x. cells_of structs (type_as x.ty)) xs ≡ sum_by (cells_of structs) (map (λ x. type_as x.ty) xs)
sum_vars structs [] = refl
sum_vars structs (x ∷ xs) = sum_by-cons (λ (y : Var). cells_of structs (type_as y.ty)) x xs ∙ ap (λ n. cells_of structs (type_as x.ty) + n) (sum_vars structs xs) ∙ sym (sum_by-cons (cells_of structs) (type_as x.ty) (map (λ y. type_as y.ty) xs))

pub small_frame : (marks : Marks) (monitor : Bool) (p : ProgramTree) (structs : Structs) (f : FunctionTree) (s : Signature) → FunctionFits marks monitor p structs f s → has_small_frame p f ≡ true → frame_faults marks structs f s ≡ []
small_frame marks monitor p structs f s fits small =
    let m = marks (text_name (f.id, s)) in
    let same : sum_by (λ v. cells_of structs v.ty) (half_variables m f) ≡ sum_by (λ x. cells_of structs (type_as x.ty)) f.vars =
    sum_types structs (half_variables m f) ∙ ap (sum_by (cells_of structs)) (types_of m f) ∙ sym (sum_vars structs f.vars) in
    ap (λ b. fault_if b TooLarge nowhere) (not_large (sum_by (λ v. cells_of structs v.ty) (half_variables m f)) (sum_by (λ x. cells_of structs (type_as x.ty)) f.vars) (sum_by (λ x. variable_cells p.structs x.ty) f.vars) same fits.cells small)
  where
    not_large : (a b c : ℕ) → a ≡ b → b ≤ c → nat_le c 16384 ≡ true → nat_lt 16384 a ≡ false
    not_large a b c same less few = let most : c ≤ 16384 = grind (arith, nat_tests, few) in let low : a ≤ 16384 = omega (arith, same, less, most) in grind (arith, nat_tests, low)

-- the function with this signature is one that a program begins with
abbrev pub starts_by : FunctionTree → Option Signature → Bool
starts_by f None = false
starts_by f (Some s) = is_start (callable_as (text_name (f.id, s)) s.result (parameters_in f)) true

abbrev pub starts : ProgramTree → FunctionTree → Bool
starts p f = starts_by f (signature_at p f.id)

-- whether main was there, or is one of these
abbrev pub main_after : ProgramTree → Bool → List FunctionTree → Bool
main_after p b [] = b
main_after p b (f ∷ fs) = main_after p (starts p f || b) fs

-- a function at this place isn't among these
abbrev pub NotAmong : ProgramTree → List FunctionTree → ℕ → Type 0
NotAmong p fs k = (n : ℕ) (f : FunctionTree) (s : Signature) → slice_get fs n ≡ Some f → slice_get p.signatures k ≡ Some (f.id, s) → ⊥

-- what holds behind these functions, of what there was before
pub record Behind (p : ProgramTree) (fs later : List FunctionTree) (old r : Rest) : Type 0 where
  pub fresh : Fresh p r later
  pub main : r.has_main ≡ main_after p old.has_main fs
  pub globals : r.globals ≡ old.globals
  pub more : List ExprTree
  pub grown : r.exprs ≡ old.exprs ++ more
  pub kept : (k : ℕ) → NotAmong p fs k → slice_get r.functions k ≡ slice_get old.functions k

entry_other : (fs : List typed.FunctionTree) (k j : ℕ) (vars : List Var) (b : BodyTree) → (j ≡ k → ⊥) → slice_get (with_body fs k nowhere vars b) j ≡ slice_get fs j
entry_other fs k j vars b other = go (slice_get fs k)
  where
    go : (o : Option typed.FunctionTree) → slice_get (option_map_or (λ f. slice_set fs k (with_parts f nowhere vars b)) o fs) j ≡ slice_get fs j
    go None = refl
    go (Some f) = set_other fs k j (with_parts f nowhere vars b) other

pub functions_added : (bodies : BodiesKeepTheirMeaning) (marks : Marks) (monitor : Bool) (p : ProgramTree) (structs : Structs) (r : Rest) (first start : ℕ) (fs later : List FunctionTree) → HalfFits monitor p structs → FunctionsFit marks monitor p structs
    → ((n : ℕ) (f : FunctionTree) → slice_get (fs ++ later) n ≡ Some f → slice_get p.functions (start + n) ≡ Some f) → are_rising first (map (λ g. g.id) (fs ++ later)) ≡ true → Fresh p r (fs ++ later)
    → Passes (checked_items marks (at (half_env monitor p) structs r) (map (function_item p) fs)) (half_env monitor p) structs (list_all (has_small_frame p) fs ≡ true) (Behind p fs later r)
functions_added bodies marks monitor p structs r first start [] later half fit among rise fresh = record { rest = r; is = refl; faults = λ h. refl; holds = record { fresh = fresh; main = refl; globals = refl; more = []; grown = sym (append_nil r.exprs); kept = λ k none. refl } }
functions_added bodies marks monitor p structs r first start (f ∷ fs) later half fit among rise fresh =
    let there : slice_get p.functions start ≡ Some f = ap (slice_get p.functions) (omega arith) ∙ among 0 f refl in
    let own = fit start f there in
    let s = own.signature in
    let place = lookup_place p.signatures f.id s own.fits.named in
    let k = place.place in
    let one = function_added bodies marks monitor p structs r start f s k half own.fits there place.there (fresh 0 f k s refl place.there) in
    let again = functions_added bodies marks monitor p structs (with_function marks monitor p structs r f s k) (suc f.id) (suc start) fs later half fit
    (λ n g e. ap (slice_get p.functions) (next start n) ∙ among (suc n) g e) (and_parts (nat_le first f.id) (are_rising (suc f.id) (map (λ g. g.id) (fs ++ later))) rise).1
    (still_fresh marks monitor p structs r f (fs ++ later) s k first rise place.there fresh) in
    let whole = ap (then_rest marks (map (function_item p) fs)) one in
    record {
      rest = again.rest;
      is = ap (λ c. c.progress) whole ∙ again.is;
      faults = λ small.
          let parts = and_parts (has_small_frame p f) (list_all (has_small_frame p) fs) small in
          ap (λ c. c.faults) whole ∙ (λ i. small_frame marks monitor p structs f s own.fits parts.0 i ++ again.faults parts.1 i);
      holds = record {
        fresh = again.holds.fresh;
        main = again.holds.main ∙ ap (λ o. main_after p (starts_by f o || r.has_main) fs) (sym own.fits.named);
        globals = again.holds.globals;
        more = (checked_statements marks monitor p structs (length r.exprs) f s).trees ++ again.holds.more;
        grown = again.holds.grown ∙ append_assoc r.exprs (checked_statements marks monitor p structs (length r.exprs) f s).trees again.holds.more;
        kept = λ j none.
            again.holds.kept j (λ n g t e. none (suc n) g t e)
            ∙ entry_other r.functions k j _ _ (λ same. none 0 f s refl (ap (slice_get p.signatures) same ∙ place.there));
      };
    }
  where
    next : (a b : ℕ) → suc a + b ≡ a + suc b
    next a b = omega arith
