-- A signature that stands at a place.
use Rattle.std.proofs.Common.{◌≡◌, ◌∙◌, ◌<◌, ◌≤◌, ℕ, zero, suc, List, [], ◌∷◌, length, map, get_or, Some, refl, sym, ap, subst, arith, nat_eq}
use Rattle.std.proofs.lemmas.Bool.Decides.{nat_tests}
use Rattle.std.specs.Map.{lookup}
use Rattle.std.specs.Prelude.{IsTrue, nat_le}
use Rattle.pt_base.specs.declared.ids.FnId.{FnId}
use Rattle.pt_base.proofs.Booleans.{both_hold_first, both_hold_second, cond_false, cond_true}
use Rattle.pt_base.proofs.Numbers.{nat_eq_from_suc, nat_eq_true_turned}
use Rattle.pt_tree.specs.declared.signature.Signature.{Signature}
use Rattle.typed_tree.specs.WellFormed.{are_rising}
use Rattle.pt_core.specs.CodeTree.{numbered}

abbrev Rise : ℕ → List (FnId × Signature) → Type 0
Rise low xs = IsTrue (are_rising low (map (λ s. s.0) (numbered xs)))

head_is : (low : ℕ) (x : FnId × Signature) (xs : List (FnId × Signature)) → Rise low (x ∷ xs) → low ≤ x.0.0
head_is low x xs h = let first = both_hold_first (nat_le low x.0.0) (are_rising (suc x.0.0) (map (λ s. s.0) (numbered xs))) h in grind (arith, nat_tests, first)

rest_rises : (low : ℕ) (x : FnId × Signature) (xs : List (FnId × Signature)) → Rise low (x ∷ xs) → Rise (suc x.0.0) xs
rest_rises low x xs h = both_hold_second (nat_le low x.0.0) (are_rising (suc x.0.0) (map (λ s. s.0) (numbered xs))) h

-- none is below where they begin
no_less : (low : ℕ) (xs : List (FnId × Signature)) (i : ℕ) (d : FnId × Signature) → Rise low xs → i < length xs → low ≤ (get_or xs i d).0.0
no_less low [] i d h within = absurd (omega arith)
no_less low (x ∷ xs) zero d h within = head_is low x xs h
no_less low (x ∷ xs) (suc i) d h within =
    let first : low ≤ x.0.0 = head_is low x xs h in
    let rest : suc x.0.0 ≤ (get_or xs i d).0.0 = no_less (suc x.0.0) xs i d (rest_rises low x xs h) (omega arith) in
    omega arith

found_from : (low f : ℕ) (xs : List (FnId × Signature)) (i : ℕ) (x : FnId × Signature) → Rise low xs → i < length xs → x ≡ get_or xs i x → x.0.0 ≡ f → lookup (nat_eq f) (numbered xs) ≡ Some x.1
found_from low f [] i x h within is same = absurd (omega arith)
found_from low f (y ∷ ys) zero x h within is same =
    cond_true (nat_eq f y.0.0) (Some y.1) (lookup (nat_eq f) (numbered ys)) (nat_eq_true_turned f y.0.0 (ap (λ (z : FnId × Signature). z.0.0) (sym is) ∙ same)) ∙ ap (λ (z : FnId × Signature). Some z.1) (sym is)
found_from low f (y ∷ ys) (suc i) x h within is same =
    let above : suc y.0.0 ≤ (get_or ys i x).0.0 = no_less (suc y.0.0) ys i x (rest_rises low y ys h) (omega arith) in
    let there : (get_or ys i x).0.0 ≡ f = ap (λ (z : FnId × Signature). z.0.0) (sym is) ∙ same in
    cond_false (nat_eq f y.0.0) (Some y.1) (lookup (nat_eq f) (numbered ys)) (nat_eq_from_suc f y.0.0 (omega (arith, above, there)))
    ∙ found_from (suc y.0.0) f ys i x (rest_rises low y ys h) (omega arith) is same

same_item : (xs : List (FnId × Signature)) (i : ℕ) (x y : FnId × Signature) → i < length xs → get_or xs i x ≡ get_or xs i y
same_item [] i x y within = absurd (omega arith)
same_item (z ∷ zs) zero x y within = refl
same_item (z ∷ zs) (suc i) x y within = same_item zs i x y (omega arith)

-- what stands at a place and has the number is what is found
pub found_there : (xs ys : List (FnId × Signature)) (f i : ℕ) (x y : FnId × Signature) → xs ≡ ys → IsTrue (are_rising 0 (map (λ s. s.0) (numbered ys))) → i < length xs → x ≡ get_or xs i x → x.0.0 ≡ f →
    Some (get_or xs i y).1 ≡ lookup (nat_eq f) (numbered ys)
found_there xs ys f i x y same h within is number =
    let rises : IsTrue (are_rising 0 (map (λ s. s.0) (numbered xs))) = subst (λ (zs : List (FnId × Signature)). IsTrue (are_rising 0 (map (λ s. s.0) (numbered zs)))) (sym same) h in
    ap (λ (z : FnId × Signature). Some z.1) (sym (same_item xs i x y within) ∙ sym is)
    ∙ sym (found_from 0 f xs i x rises within is number)
    ∙ ap (λ (zs : List (FnId × Signature)). lookup (nat_eq f) (numbered zs)) same
