-- Which numbers name an entry of a well formed program.
use Rattle.std.proofs.Common.{◌≡◌, ◌<◌, ◌+◌, ℕ, suc, refl, Bool, List, [], ◌∷◌, length, arith, Option, Some, None}
use Rattle.std.specs.Prelude.{◌≤◌, IsTrue, nat_lt, nat_eq, slice_get, option_and_then, All}
use Rattle.std.specs.List.{list_all}
use Rattle.std.proofs.lemmas.Bool.Decides.{nat_tests}
use Rattle.std.proofs.lemmas.Option.{slice_get_within}
use Rattle.std.proofs.lemmas.List.Sums.{AllPass-from_list_all}
use Rattle.pt_base.specs.declared.ids.FnId.{FnId}
use Rattle.pt_base.proofs.Booleans.{both_hold_first, both_hold_second}
use Rattle.pt_base.proofs.Members.{all_hold_at}
use Rattle.typed_tree.specs.declared.ids.ExprId.{ExprId}
use Rattle.typed_tree.specs.declared.part.Part.{Part}
use Rattle.typed_tree.specs.declared.types.VarTy.{VarTy}
use Rattle.typed_tree.specs.ExpressionTree.{ExprTree}
use Rattle.typed_tree.specs.TypedTree.{FunctionTree, TypedTree}
use Rattle.typed_tree.specs.Parts.{function_parts}
use Rattle.typed_tree.specs.Lookup.{parts_in}
use Rattle.typed_tree.specs.WellFormedStatement.{Scope, found_fits, expr_fits}
use Rattle.typed_tree.specs.WellFormed.{is_well_formed, function_sound, are_numbered, are_consecutive, numbers_sound}
use Rattle.typed_tree.proofs.WellFormedLemmas.{facts_of}

-- each function is sound
pub function_is_sound : (t : TypedTree) (k : ℕ) (f : FunctionTree) → IsTrue (is_well_formed t) → slice_get t.functions k ≡ Some f → IsTrue (function_sound t f)
function_is_sound t k f h e = all_hold_at (function_sound t) t.functions k f (facts_of t h).functions e

numbered_count : (first : ℕ) (ps : List Part) (last : ℕ) → IsTrue (are_numbered first ps last) → first + length ps ≤ last
numbered_count first [] last h = grind (arith, nat_tests, h)
numbered_count first (p ∷ ps) last h =
    let rest = numbered_count (suc first) ps last (both_hold_second (nat_eq p.expr.0 first) (are_numbered (suc first) ps last) h) in
    omega (arith, rest)

numbered_below : (first : ℕ) (ps : List Part) (last : ℕ) → IsTrue (are_numbered first ps last) → IsTrue (list_all (λ p. nat_lt p.expr.0 last) ps)
numbered_below first [] last h = refl
numbered_below first (p ∷ ps) last h =
    let count = numbered_count first (p ∷ ps) last h in
    let here = both_hold_first (nat_eq p.expr.0 first) (are_numbered (suc first) ps last) h in
    let rest = numbered_below (suc first) ps last (both_hold_second (nat_eq p.expr.0 first) (are_numbered (suc first) ps last) h) in
    grind (arith, nat_tests, count, here, rest)

consecutive_below : (ps : List Part) (last : ℕ) → IsTrue (are_consecutive ps last) → IsTrue (list_all (λ p. nat_lt p.expr.0 last) ps)
consecutive_below [] last h = refl
consecutive_below (p ∷ ps) last h = numbered_below p.expr.0 (p ∷ ps) last h

parts_below : (t : TypedTree) (f : FnId) → IsTrue (is_well_formed t) → IsTrue (list_all (λ p. nat_lt p.expr.0 (length t.exprs)) (parts_in t f))
parts_below t f h = go (slice_get t.functions f.0) refl
  where
    go : (o : Option FunctionTree) → slice_get t.functions f.0 ≡ o → IsTrue (list_all (λ p. nat_lt p.expr.0 (length t.exprs)) (function_parts (option_and_then (λ g. g.body) o)))
    go None e = refl
    go (Some g) e =
        let numbers = all_hold_at (numbers_sound t) t.functions f.0 g (facts_of t h).numbered e in
        consecutive_below (function_parts g.body) (length t.exprs) (both_hold_first _ _ numbers)

-- each part names an outermost expression
pub parts_known : (t : TypedTree) (f : FnId) → IsTrue (is_well_formed t) → All (λ p. p.expr.0 < length t.exprs) (parts_in t f)
parts_known t f h = λ k d within.
    let below = AllPass-from_list_all (λ p. nat_lt p.expr.0 (length t.exprs)) (parts_in t f) (parts_below t f h) k d within in
    grind (arith, nat_tests, below)

-- and so does each number that a sound statement tests
pub expr_known : (c : Scope) (test : Option VarTy → Bool) (a : ExprId) → IsTrue (expr_fits c test a) → a.0 < length c.exprs
expr_known c test a h = go (slice_get c.exprs a.0) refl h
  where
    go : (o : Option ExprTree) → slice_get c.exprs a.0 ≡ o → IsTrue (found_fits c.names test o) → a.0 < length c.exprs
    go None e h = grind (arith, h)
    go (Some x) e h = slice_get_within c.exprs a.0 x e
