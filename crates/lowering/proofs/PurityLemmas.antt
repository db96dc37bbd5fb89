-- Pure parts of lists.
use Rattle.std.proofs.Common.{◌≡◌, ℕ, ◌+◌, ◌-◌, ◌<◌, ◌≤◌, Bool, true, false, not, ◌&&◌, List, [], ◌∷◌, length, drop, get_or, map, zero, suc, refl, sym, ap, ◌∙◌, arith}
use Rattle.std.specs.Prelude.{nat_lt}
use Rattle.std.proofs.lemmas.List.{drop-drop, drop_more}
use Rattle.std.proofs.lemmas.Bool.{ltb-false, ltb-true, le-ltb}
use Rattle.pt_base.proofs.Booleans.{and_true_second}
use Rattle.typed_tree.specs.declared.expression.TypedExpr.{TypedExpr}
use Rattle.typed_tree.specs.ExpressionTree as tree
use Rattle.typed_tree.specs.ExpressionTree.{StepTree, StepTrees, step_and, expr_trees, view_expr}
use Rattle.lowering.specs.Purity.{is_pure, are_pure, are_pure_steps}
use Rattle.lowering.specs.ExpressionParts.{is_pure_step}

pub pure_steps : (x : StepTree) (rest : StepTrees) → are_pure_steps (step_and x rest) ≡ (is_pure_step x && are_pure_steps rest)
pure_steps (tree.field k) rest = refl
pure_steps (tree.item e s) rest = refl

abbrev pub all_pure : List TypedExpr → Bool
all_pure es = are_pure (expr_trees (map view_expr es))

pure_drop : (es : List TypedExpr) (n : ℕ) → all_pure es ≡ true → all_pure (drop n es) ≡ true
pure_drop es zero h = h
pure_drop [] (suc n) h = refl
pure_drop (x ∷ es) (suc n) h = pure_drop es n (and_true_second (is_pure (view_expr x)) (all_pure es) h)

-- what stands behind pure ones is pure
pub pure_behind : (es : List TypedExpr) (i k : ℕ) → i ≤ k → all_pure (drop i es) ≡ true → all_pure (drop k es) ≡ true
pure_behind es i k le h =
    let e : i + (k - i) ≡ k = omega arith in
    ap (λ j. all_pure (drop j es)) (sym e) ∙ ap all_pure (sym (drop-drop (k - i) i es)) ∙ pure_drop (drop i es) (k - i) h

impure_at : (es : List TypedExpr) (i : ℕ) (x d : TypedExpr) → i < length es → x ≡ get_or es i d → is_pure (view_expr x) ≡ false → all_pure (drop i es) ≡ false
impure_at es i x d below is h =
    ap all_pure (drop_more es i d below) ∙ ap (λ y. is_pure (view_expr y) && all_pure (drop (i + 1) es)) (sym is) ∙ ap (λ b. b && all_pure (drop (i + 1) es)) h

-- with an impure one behind, they aren't
impure_before : (es : List TypedExpr) (i k : ℕ) (x d : TypedExpr) → k ≤ i → i < length es → x ≡ get_or es i d → is_pure (view_expr x) ≡ false → all_pure (drop k es) ≡ false
impure_before es i k x d le below is h = go (all_pure (drop k es)) refl
  where
    go : (b : Bool) → all_pure (drop k es) ≡ b → all_pure (drop k es) ≡ false
    go false e = e
    go true e = e ∙ sym (pure_behind es k i le e) ∙ impure_at es i x d below is h

pub pure_from_start : (es : List TypedExpr) (from k : ℕ) → all_pure (drop from es) ≡ true → from ≤ 0 → all_pure (drop k es) ≡ not (nat_lt k 0)
pure_from_start es from k h e =
    let le : from ≤ k = omega arith in
    pure_behind es from k le h ∙ sym (ap not (le-ltb k 0 (omega arith)))

pub pure_from_is : (es : List TypedExpr) (from k : ℕ) (x d : TypedExpr) → all_pure (drop from es) ≡ true → 0 < from → from ≤ length es → x ≡ get_or es (from - 1) d → is_pure (view_expr x) ≡ false → all_pure (drop k es) ≡ not (nat_lt k from)
pure_from_is es from k x d h some within is impure = go (nat_lt k from) refl
  where
    go : (b : Bool) → nat_lt k from ≡ b → all_pure (drop k es) ≡ not b
    go true e =
        let lt : k < from = ltb-true k from e in
        impure_before es (from - 1) k x d (omega arith) (omega arith) is impure
    go false e = pure_behind es from k (ltb-false k from e) h
