-- Tests joined to one.
use Rattle.std.proofs.Common.{◌≡◌, Bool, true, false, List, [], ◌∷◌, refl, ap, sym, ◌∙◌}
use Rattle.std.specs.Prelude.{◌&&◌}
use Rattle.std.specs.List.{list_all, flat_map}
use Rattle.std.proofs.lemmas.List.Folds.{list_all-append}

crossed : (a b c d : Bool) → ((a && b) && (c && d)) ≡ ((a && c) && (b && d))
crossed false b c d = refl
crossed true true c d = refl
crossed true false true d = refl
crossed true false false d = refl

-- two tests of each are one of each, and then the other
pub both_all : {X : Type 0} (p q : X → Bool) (xs : List X) → list_all (λ x. p x && q x) xs ≡ (list_all p xs && list_all q xs)
both_all p q [] = refl
both_all p q (x ∷ xs) = ap (λ b. (p x && q x) && b) (both_all p q xs) ∙ crossed (p x) (q x) (list_all p xs) (list_all q xs)

-- a test of lists joined end to end
pub all_flat : {X Y : Type 0} (p : Y → Bool) (h : X → List Y) (xs : List X) → list_all p (flat_map h xs) ≡ list_all (λ x. list_all p (h x)) xs
all_flat p h [] = refl
all_flat p h (x ∷ xs) = list_all-append p (h x) (flat_map h xs) ∙ ap (λ b. list_all p (h x) && b) (all_flat p h xs)

pub then_both : (x y z : Bool) → (x && y) ≡ z → x ≡ true → y ≡ z
then_both x y z h is = ap (λ b. b && y) (sym is) ∙ h

pub else_both : (x y z : Bool) → (x && y) ≡ z → x ≡ false → false ≡ z
else_both x y z h is = ap (λ b. b && y) (sym is) ∙ h
