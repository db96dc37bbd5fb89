-- What the typed tree of a half has at the place of each function.
use Rattle.std.proofs.Common.{◌≡◌, ◌++◌, ◌∙◌, ◌≤◌, ◌+◌, sym, ap, refl, subst, ℕ, zero, suc, ℤ, Bool, true, false, List, [], ◌∷◌, length, map, take, drop, Option, Some, None, arith}
use Rattle.std.specs.Prelude.{◌&&◌, not, is_some, slice_get, if◌then◌else◌}
use Rattle.std.specs.Option.{option_map_or}
use Rattle.std.specs.List.{list_all, range_with_len}
use Rattle.std.proofs.lemmas.List.{length-take-le}
use Rattle.pt_base.proofs.Booleans.{and_parts}
use Rattle.pt_base.proofs.Members.{all_true_at}
use Rattle.pt_base.proofs.Options.{some_same}
use Rattle.pt_base.proofs.Places.{get_mapped}
use Rattle.pt_tree.specs.declared.signature.Param.{Param}
use Rattle.pt_tree.specs.declared.signature.Signature.{Signature}
use Rattle.pt_tree.specs.PlainNumbers.{plain_numbers}
use Rattle.pt_tree.specs.ProgramTree.{ItemTree}
use Rattle.typed_tree.specs.declared.variable.Var.{Var}
use Rattle.typed_tree.specs.StatementTree.{block, body_trees}
use Rattle.typed_tree.specs.TypedTree as trees
use Rattle.typed_tree.specs.TypedTree.{TypedTree}
use Rattle.typed_tree.specs.TypeTests.{same_type, same_bool}
use Rattle.typed_tree.specs.WellFormed.{params_lead}
use Rattle.typed_tree.specs.WellFormedExpression.{param_type}
use Rattle.check_programs.specs.Functions as fn
use Rattle.check_programs.specs.Functions.{signature_of}
use Rattle.check_programs.specs.Unions as u
use Rattle.check_programs.specs.Programs.{checked_items, tree_of}
use Rattle.check_programs.specs.Progress.{at_start}
use Rattle.pt_core.specs.CodeTree.{FunctionTree, ProgramTree}
use Rattle.pt_core.specs.WellFormed.{is_sound, signature_at, function_at, with_own, function_by, function_fits, counts_fit, variable_fits, scope_of}
use Rattle.pt_core.specs.WellFormedStatement.{stmts_fit}
use Rattle.half_trees.specs.Names.{nowhere}
use Rattle.half_trees.specs.Declarations.{struct_item, global_item}
use Rattle.half_trees.specs.Functions.{function_item}
use Rattle.half_trees.specs.Halves.{prototype_of}
use Rattle.half_meaning_law.specs.Statements.{BodiesKeepTheirMeaning}
use Rattle.typed_tree.proofs.SameTypes.{equal_types}
use Rattle.half_names_law.specs.Declarable.{Declarable}
use Rattle.half_names_law.specs.Standing.{Marks, own_marks, locals_at, statements_at, all_said}
use Rattle.half_names_law.specs.Laws.{statements_checked, judged_tree, BodyStands, MeaningKept}
use Rattle.half_names_law.proofs.Numbers.{number_at, number_once, lookup_place}
use Rattle.half_names_law.proofs.Names.{own, text_name, callable_in}
use Rattle.half_names_law.proofs.Parts.{own_params, own_long, enough, function_there}
use Rattle.half_names_law.proofs.Premises.{MarksSay}
use Rattle.half_names_law.proofs.Prototypes.{at}
use Rattle.half_names_law.proofs.Functions.{NotAmong, checked_statements, variables_at}
use Rattle.half_names_law.proofs.Locals.{declaration_trees}
use Rattle.half_names_law.proofs.Halves.{Sound, soundness, half_structs, half_fits, function_fit}
use Rattle.half_names_law.proofs.Marks.{find_back}
use Rattle.half_names_law.proofs.Law.{declared_half, passes_before, locals_there, functions_differ}
use Rattle.half_names_law.proofs.Trees.{kind_is, other_before, ends, entry_with}
use Rattle.half_texts_law.proofs.CallsFrames.{Leads, types_in}
use Rattle.half_texts_law.proofs.CallsDepths.{number_of, EntryStands, BodyIs, TextIs}
use Rattle.half_texts_law.proofs.CallsMarked.{marked_said, plain_same, plain_first}

-- ---- what a half's function is

-- it has its own parameters, which lead its variables, and its code fits
pub record OwnFits (monitor : Bool) (p : ProgramTree) (f : FunctionTree) (s : Signature) : Type 0 where
  pub params : (with_own monitor (Some f) s).params ≡ take f.params s.params
  pub long : length (take f.params s.params) ≡ f.params
  pub lead : params_lead (take f.params s.params) f.vars ≡ true
  pub enough : f.params ≤ length f.vars
  pub code : stmts_fit (scope_of monitor p f s) false f.body ≡ true

pub own_fits : (monitor : Bool) (p : ProgramTree) (n : ℕ) (f : FunctionTree) (s : Signature) → Sound monitor p → slice_get p.functions n ≡ Some f → signature_at p f.id ≡ Some s → OwnFits monitor p f s
own_fits monitor p n f s sound there named =
    let fits : function_by monitor p f (Some s) ≡ true = ap (function_by monitor p f) (sym named) ∙ all_true_at (function_fits monitor p) p.functions n f sound.functions there in
    let first = and_parts (not s.host && (counts_fit monitor f.params (length s.params) && params_lead (take f.params s.params) f.vars)) (list_all (variable_fits p.structs) f.vars && stmts_fit (scope_of monitor p f s) false f.body) fits in
    let head = and_parts (not s.host) (counts_fit monitor f.params (length s.params) && params_lead (take f.params s.params) f.vars) first.0 in
    let lead = and_parts (counts_fit monitor f.params (length s.params)) (params_lead (take f.params s.params) f.vars) head.1 in
    let rest = and_parts (list_all (variable_fits p.structs) f.vars) (stmts_fit (scope_of monitor p f s) false f.body) first.1 in
    record {
      params = own_params monitor f s head.0 lead.0;
      long = length-take-le f.params s.params (own_long monitor f.params (length s.params) lead.0);
      lead = lead.1;
      enough = enough monitor f s lead.0 lead.1;
      code = rest.1;
    }

-- parameters that lead variables have their types
leading : (ps : List Param) (xs : List Var) → params_lead ps xs ≡ true → Leads ps (types_in xs)
leading [] xs h = tt {0}
leading (p ∷ ps) [] h = absurd (never h)
  where
    never : false ≡ true → ⊥
    never e = cc
leading (p ∷ ps) (x ∷ xs) h =
    let parts = and_parts (same_type (param_type p.kind) x.ty && same_bool p.marked x.marked) (params_lead ps xs) h in
    (equal_types (param_type p.kind) x.ty (and_parts (same_type (param_type p.kind) x.ty) (same_bool p.marked x.marked) parts.0).0, leading ps xs parts.1)

counted : (xs : List Var) → length (types_in xs) ≡ length xs
counted [] = refl
counted (x ∷ xs) = ap suc (counted xs)

behind : (n : ℕ) (xs : List Var) → n ≤ length xs → n + length (drop n xs) ≡ length xs
behind zero xs h = omega arith
behind (suc n) [] h = absurd (omega (arith, h))
behind (suc n) (x ∷ xs) h = let again = behind n xs (omega (arith, h)) in omega (arith, again)

-- ---- places and numbers

-- a function's number stands where the text has the function
pub placed : (monitor : Bool) (p : ProgramTree) (g : ℕ) (s : Signature) → Sound monitor p → signature_at p (number_of p g) ≡ Some s → slice_get p.signatures g ≡ Some (number_of p g, s)
placed monitor p g s sound named =
    let place = lookup_place p.signatures (number_of p g) s named in
    let number = number_at 0 (map (λ x. x.0) p.signatures) place.place (number_of p g) (get_mapped (λ x. x.0) p.signatures place.place (number_of p g, s) place.there) in
    let same : place.place ≡ g = number_once 0 (map (λ x. x.0) p.signatures) place.place g sound.order.0 number in
    ap (slice_get p.signatures) (sym same) ∙ place.there

-- what a half's function stands under
pub at_number : (p : ProgramTree) (N : ℕ) (f : FunctionTree) → function_at p N ≡ Some f → (n : ℕ) × (slice_get p.functions n ≡ Some f) × (N ≡ f.id)
at_number p N f h = find_back p.functions N f h

-- ---- entries of the tree

-- the half's items with these functions
abbrev items_with : Bool → ProgramTree → List FunctionTree → List ItemTree
items_with monitor p fs = map (struct_item p.structs) (range_with_len 0 (length p.structs)) ++ (map (prototype_of monitor p) p.signatures ++ (map (global_item p.structs) p.globals ++ map (function_item p) fs))

-- a function stands at its place with what its prototype says, and it has a body if the half's function has one
pub record Standing (marks : Marks) (monitor : Bool) (p : ProgramTree) (k : ℕ) (s : ℕ × Signature) : Type 0 where
  pub entry : trees.FunctionTree
  pub there : slice_get (judged_tree marks monitor p).functions k ≡ Some entry
  pub signature : entry.signature ≡ signature_of (marks (text_name s)) (callable_in monitor p s)
  pub body : is_some entry.body ≡ is_some (function_at p s.0)

module _ (bodies : BodiesKeepTheirMeaning) (marks : Marks) (monitor : Bool) (p : ProgramTree) (h : is_sound monitor p ≡ true) (d : Declarable p) (said_all : all_said monitor p ≡ true) (say : MarksSay marks p) where
  sound : Sound monitor p
  sound = soundness monitor p h

  -- a function with a body
  with_body : (k n : ℕ) (f : FunctionTree) (s : Signature) → slice_get p.functions n ≡ Some f → signature_at p f.id ≡ Some s → slice_get p.signatures k ≡ Some (f.id, s) → function_at p f.id ≡ Some f → Standing marks monitor p k (f.id, s)
  with_body k n f s there named place found =
      let half = half_fits monitor p h d in
      let fits = function_fit marks monitor p n f s h d said_all say there named in
      let passes = passes_before bodies marks monitor p n h d said_all say in
      let r = passes.rest in
      let end = ends bodies marks monitor p n f s k r h d said_all say fits there place passes.holds.fresh passes.is in
      let declared = declared_half marks monitor p h d say in
      let entry = declared.entries k (f.id, s) place in
      let all = checked_statements marks monitor p (half_structs p) (length r.exprs) f s in
      let vars = map fn.var_of (variables_at marks f s) in
      let b = block nowhere (body_trees (declaration_trees f.params (drop f.params f.vars) ++ all.bodies)) in
      record {
        entry = fn.with_parts entry.entry nowhere vars b;
        there = ap (λ st. slice_get (tree_of st).functions k) end.is ∙ end.kept ∙ entry_with r.functions k entry.entry vars b (passes.holds.kept k (other_before p n k f s sound.order.1 there place) ∙ entry.there);
        signature = entry.signature;
        body = sym (ap is_some found);
      }

  -- all functions of the half
  whole : take (length p.functions) p.functions ≡ p.functions
  whole = all p.functions
    where
      all : {A : Type 0} (xs : List A) → take (length xs) xs ≡ xs
      all [] = refl
      all (x ∷ xs) = ap (λ ys. x ∷ ys) (all xs)

  -- a function without one
  without_body : (k : ℕ) (s : ℕ × Signature) → slice_get p.signatures k ≡ Some s → function_at p s.0 ≡ None → Standing marks monitor p k s
  without_body k s place none =
      let passes = passes_before bodies marks monitor p (length p.functions) h d said_all say in
      let declared = declared_half marks monitor p h d say in
      let entry = declared.entries k s place in
      record {
        entry = entry.entry;
        there =
            ap (λ fs. slice_get (tree_of (checked_items marks at_start (items_with monitor p fs)).progress).functions k) (sym whole)
            ∙ ap (λ st. slice_get (tree_of st).functions k) passes.is ∙ passes.holds.kept k not_among ∙ entry.there;
        signature = entry.signature;
        body = ap (λ o. option_map_or (λ (g : trees.FunctionTree). is_some g.body) o false) (sym entry.there) ∙ declared.bodiless k ∙ sym (ap is_some none);
      }
    where
      no_function : (x : FunctionTree) → Some x ≡ None → ⊥
      no_function x e = cc

      not_among : NotAmong p (take (length p.functions) p.functions) k
      not_among n f s' at here =
          let same : (f.id, s') ≡ s = some_same (f.id, s') s (sym here ∙ place) in
          let is = function_there 0 p.functions n f sound.order.1 (ap (λ fs. slice_get fs n) (sym whole) ∙ at) in
          no_function f (sym is ∙ ap (λ (z : ℕ × Signature). function_at p z.0) same ∙ none)

  -- behind the half's functions there is none
  pub beyond : (k : ℕ) → slice_get p.signatures k ≡ None → slice_get (judged_tree marks monitor p).functions k ≡ None
  beyond k none =
      let passes = passes_before bodies marks monitor p (length p.functions) h d said_all say in
      let declared = declared_half marks monitor p h d say in
      ap (λ fs. slice_get (tree_of (checked_items marks at_start (items_with monitor p fs)).progress).functions k) (sym whole)
      ∙ ap (λ st. slice_get (tree_of st).functions k) passes.is ∙ passes.holds.kept k (λ n f t at here. nothing (f.id, t) (sym none ∙ here)) ∙ as_long p.signatures declared.rest.functions k (sym declared.long) none
    where
      nothing : (x : ℕ × Signature) → None ≡ Some x → ⊥
      nothing x e = cc

      as_long : {A B : Type 0} (xs : List A) (ys : List B) (k : ℕ) → length xs ≡ length ys → slice_get xs k ≡ None → slice_get ys k ≡ None
      as_long xs [] k long e = refl
      as_long [] (y ∷ ys) k long e = absurd (omega (arith, long))
      as_long (x ∷ xs) (y ∷ ys) zero long e = cc
      as_long (x ∷ xs) (y ∷ ys) (suc k) long e = as_long xs ys k (omega (arith, long)) e

  pub standing : (k : ℕ) (s : ℕ × Signature) → slice_get p.signatures k ≡ Some s → signature_at p s.0 ≡ Some s.1 → Standing marks monitor p k s
  standing k s place named = go (function_at p s.0) refl
    where
      go : (o : Option FunctionTree) → function_at p s.0 ≡ o → Standing marks monitor p k s
      go None e = without_body k s place e
      go (Some f) e =
          let found = at_number p s.0 f e in
          let is : (f.id, s.1) ≡ s = λ i. (sym found.2 i, s.1) in
          subst (Standing marks monitor p k) is (with_body k found.0 f s.1 found.1 (ap (signature_at p) (sym found.2) ∙ named) (place ∙ ap Some (sym is)) (ap (function_at p) (sym found.2) ∙ e))

  -- ---- all that is known of the text

  module _ (same : (name : List ℕ) → (marks name).params ≡ (own_marks monitor p name).params)
      (bodies_stand : (n : ℕ) (f : FunctionTree) (s : Signature) → slice_get p.functions n ≡ Some f → signature_at p f.id ≡ Some s → BodyStands marks monitor p n f s)
      (means : (n : ℕ) (f : FunctionTree) (s : Signature) → slice_get p.functions n ≡ Some f → signature_at p f.id ≡ Some s → MeaningKept marks monitor p n f s) where
    -- the tree with the half's own structs, which have the same types
    abbrev pub tree : TypedTree
    tree = record (judged_tree marks monitor p) { structs = p.structs }

    own_leads : (N : ℕ) (s : Signature) (g : FunctionTree) → g.id ≡ N → signature_at p g.id ≡ Some s → (j : ℕ) → slice_get p.functions j ≡ Some g → (params_lead (own monitor p (N, s)).params g.vars ≡ true) × (length (own monitor p (N, s)).params ≡ g.params)
    own_leads N s g is named j there =
        let fits = own_fits monitor p j g s sound there named in
        let found : function_at p N ≡ Some g = ap (function_at p) (sym is) ∙ function_there 0 p.functions j g sound.order.1 there in
        let params : (own monitor p (N, s)).params ≡ take g.params s.params = ap (λ o. (with_own monitor o s).params) found ∙ fits.params in
        (ap (λ ps. params_lead ps g.vars) params ∙ fits.lead, ap length params ∙ fits.long)

    -- the plain numbers of a call, by the text and by the half
    plain_numbers_same : (N : ℕ) (s : Signature) (k : ℕ) (entry : trees.FunctionTree) → slice_get p.signatures k ≡ Some (N, s) → entry.signature ≡ signature_of (marks (text_name (N, s))) (callable_in monitor p (N, s)) →
        (numbers : List ℤ) → length numbers ≡ length (with_own monitor (function_at p N) s).params → plain_numbers entry.signature.params numbers ≡ plain_numbers s.params numbers
    plain_numbers_same N s k entry place signature numbers long =
        ap (λ (z : Signature). plain_numbers z.params numbers) signature
        ∙ plain_same (marks (text_name (N, s))).params 0 (own monitor p (N, s)).params numbers
        (λ j q at. let zero_j : 0 + j ≡ j = omega arith in
        ap (λ z. (u.marks_at (marks (text_name (N, s))).params z).marked) zero_j ∙ ap (λ ms. (u.marks_at ms j).marked) (same (text_name (N, s)))
        ∙ marked_said monitor p k (N, s) j q sound (functions_differ monitor p h d) place (own_leads N s) at) (λ q. kind_is q.kind)
        ∙ first (function_at p N) long
      where
        first : (o : Option FunctionTree) → length numbers ≡ length (with_own monitor o s).params → plain_numbers (with_own monitor o s).params numbers ≡ plain_numbers s.params numbers
        first None many = refl
        first (Some f) many = go (monitor && not s.host) many
          where
            short : (n : ℕ) (ps : List Param) → length (take n ps) ≤ n
            short zero ps = omega arith
            short (suc n) [] = omega arith
            short (suc n) (x ∷ ps) = let again = short n ps in omega (arith, again)

            go : (b : Bool) → length numbers ≡ length (if b then record s { params = take f.params s.params } else s).params → plain_numbers (if b then record s { params = take f.params s.params } else s).params numbers ≡ plain_numbers s.params numbers
            go true many = let few = short f.params s.params in plain_first f.params s.params numbers (omega (arith, many, few))
            go false many = refl

    privileged_same : (N : ℕ) (s : Signature) (k : ℕ) (entry : trees.FunctionTree) → slice_get p.signatures k ≡ Some (N, s) → entry.signature ≡ signature_of (marks (text_name (N, s))) (callable_in monitor p (N, s)) → entry.signature.privileged ≡ s.privileged
    privileged_same N s k entry place signature = ap (λ (z : Signature). z.privileged) signature ∙ say.privileged k (N, s) place

    place_at : (g : ℕ) (s : Signature) → signature_at p (number_of p g) ≡ Some s → slice_get p.signatures g ≡ Some (number_of p g, s)
    place_at g s named = placed monitor p g s sound named

    pub entry_at : (g : ℕ) (s : Signature) → signature_at p (number_of p g) ≡ Some s → EntryStands monitor p tree g (number_of p g) s
    entry_at g s named =
        let place = place_at g s named in
        let stands = standing g (number_of p g, s) place named in
        record {
          entry = stands.entry;
          there = stands.there;
          privileged = privileged_same (number_of p g) s g stands.entry place stands.signature;
          plain = plain_numbers_same (number_of p g) s g stands.entry place stands.signature;
          body = stands.body;
        }

    body_at : (g n : ℕ) (f : FunctionTree) (s : Signature) → signature_at p (number_of p g) ≡ Some s → slice_get p.functions n ≡ Some f → number_of p g ≡ f.id → BodyIs marks monitor p tree g n f s
    body_at g n f s named there is =
        let place = place_at g s named in
        let named' : signature_at p f.id ≡ Some s = ap (signature_at p) (sym is) ∙ named in
        let stands = bodies_stand n f s there named' in
        let here : stands.place ≡ g = number_once 0 (map (λ x. x.0) p.signatures) stands.place g sound.order.0 (stands.number ∙ sym is) in
        let entry_there : slice_get tree.functions g ≡ Some stands.entry = ap (slice_get tree.functions) (sym here) ∙ stands.there in
        let entry = standing g (number_of p g, s) place named in
        let equal : entry.entry ≡ stands.entry = some_same entry.entry stands.entry (sym entry.there ∙ entry_there) in
        let half = half_fits monitor p h d in
        let fits = function_fit marks monitor p n f s h d said_all say there named' in
        let own_parts = own_fits monitor p n f s sound there named' in
        let passes = passes_before bodies marks monitor p n h d said_all say in
        let lookup = lookup_place p.signatures f.id s named' in
        let locals = ap (λ st. locals_at marks st p f) passes.is ∙ locals_there marks monitor p f s passes.rest lookup.place half fits lookup.there in
        record {
          there = there;
          entry = stands.entry;
          entry_there = entry_there;
          privileged = ap (λ (z : trees.FunctionTree). z.signature.privileged) (sym equal) ∙ privileged_same (number_of p g) s g entry.entry place entry.signature;
          result = stands.result;
          vars = stands.vars;
          body = stands.body ∙ ap (λ l. Some (block nowhere (body_trees (l.bodies ++ (statements_checked p f s (statements_at marks monitor p n f)).bodies)))) locals;
          exprs = stands.exprs;
          found = fits.found;
          fits = own_parts.code;
          leads = subst (λ ps. Leads ps (types_in f.vars)) (sym own_parts.params) (leading (take f.params s.params) f.vars own_parts.lead);
          params = ap length own_parts.params ∙ own_parts.long;
          enough = room own_parts.enough;
          means = means n f s there named';
        }
      where
        room : f.params ≤ length f.vars → f.params + length (drop f.params f.vars) ≤ length (types_in f.vars)
        room low = let two = behind f.params f.vars low in let many = counted f.vars in omega (arith, two, many)

    globals_are : map (λ g. g.var.ty) (judged_tree marks monitor p).globals ≡ map (λ g. g.var.ty) p.globals
    globals_are =
        let passes = passes_before bodies marks monitor p (length p.functions) h d said_all say in
        ap (λ fs. map (λ g. g.var.ty) (tree_of (checked_items marks at_start (items_with monitor p fs)).progress).globals) (sym whole)
        ∙ ap (λ st. map (λ g. g.var.ty) (tree_of st).globals) passes.is ∙ ap (map (λ g. g.var.ty)) passes.holds.globals ∙ (declared_half marks monitor p h d say).globals

    pub text_is : TextIs marks monitor p tree
    text_is = record {
      structs = refl;
      globals = globals_are;
      places = entry_at;
      bodies = λ g f s named found. let at = at_number p (number_of p g) f found in (at.0, at.2, body_at g at.0 f s named at.1 at.2);
    }
