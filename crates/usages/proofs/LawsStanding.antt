-- The outermost expressions of a body are there.
use Rattle.std.proofs.Common.{◌≡◌, ◌∙◌, ◌<◌, ℕ, zero, suc, refl, ap, sym, subst, Option, Some, List, [], ◌∷◌, ◌++◌, map, length, arith}
use Rattle.std.specs.Prelude.{slice_get}
use Rattle.std.proofs.lemmas.Option.{get_or_from_slice_get, slice_get_within}
use Rattle.typed_tree.specs.declared.part.Part.{Part}
use Rattle.typed_tree.specs.ExpressionTree.{ExprTree}
use Rattle.typed_tree.specs.Lookup.{parts_in}
use Rattle.typed_tree.proofs.NumberLemmas.{parts_known}
use Rattle.usages.specs.LawsExpressions.{named, outermost_of}
use Rattle.usages.specs.Laws.{OutermostStand}

there : (xs : List ExprTree) (k : ℕ) → k < length xs → (x : ExprTree) × (slice_get xs k ≡ Some x)
there [] k h = absurd (omega arith)
there (x ∷ xs) zero h = (x, refl)
there (x ∷ xs) (suc k) h = there xs k (omega arith)

stand : (exprs : List ExprTree) (ps : List Part) → ((k : ℕ) (p : Part) → slice_get ps k ≡ Some p → p.expr.0 < length exprs) → map (λ (e : ExprTree). Some e) (outermost_of exprs ps) ≡ map (λ (p : Part). slice_get exprs p.expr.0) ps
stand exprs [] h = refl
stand exprs (p ∷ ps) h =
    let here = there exprs p.expr.0 (h 0 p refl) in
    ap (λ (o : Option ExprTree). map (λ (e : ExprTree). Some e) (named o ++ outermost_of exprs ps)) here.1
    ∙ ap (λ (rest : List (Option ExprTree)). Some here.0 ∷ rest) (stand exprs ps (λ k q is. h (suc k) q is))
    ∙ ap (λ (o : Option ExprTree). o ∷ map (λ (p : Part). slice_get exprs p.expr.0) ps) (sym here.1)

pub outermost_stand : OutermostStand
outermost_stand t f well = stand t.exprs (parts_in t f) (λ k p is. each k p is)
  where
    each : (k : ℕ) (p : Part) → slice_get (parts_in t f) k ≡ Some p → p.expr.0 < length t.exprs
    each k p is = subst (λ (q : Part). q.expr.0 < length t.exprs) (get_or_from_slice_get (parts_in t f) k p p is) (parts_known t f well k p (slice_get_within (parts_in t f) k p is))
