-- A list that is made number by number.
use Rattle.std.proofs.Common.{◌≡◌, ◌∙◌, ℕ, suc, zero, ◌+◌, ◌<◌, List, [], ◌∷◌, ◌++◌, Some, None, refl, ap, sym, map, drop, length, arith, add-one}
use Rattle.std.specs.Prelude.{option_map, slice_get}

module _ {X Y : Type 0} (f : X → Y) where
  dropped : (xs : List X) (k : ℕ) (y : Y) → Some y ≡ option_map f (slice_get xs k) → map f (drop k xs) ≡ y ∷ map f (drop (suc k) xs)
  dropped [] k y is = cc
  dropped (x ∷ xs) zero y is = let same : y ≡ f x = cc in ap (λ z. z ∷ map f xs) (sym same)
  dropped (x ∷ xs) (suc k) y is = dropped xs k y is

  joined : (done more : List Y) (y : Y) → (done ++ y ∷ []) ++ more ≡ done ++ y ∷ more
  joined [] more y = refl
  joined (x ∷ done) more y = ap (λ ys. x ∷ ys) (joined done more y)

  pub one_more : (xs : List X) (k : ℕ) (y : Y) (done after all : List Y) → Some y ≡ option_map f (slice_get xs k) → after ≡ done ++ y ∷ [] → done ++ map f (drop k xs) ≡ all → after ++ map f (drop (k + 1) xs) ≡ all
  one_more xs k y done after all is e whole =
      rw add-one (ap (λ ys. ys ++ map f (drop (suc k) xs)) e ∙ joined done (map f (drop (suc k) xs)) y ∙ ap (λ ys. done ++ ys) (sym (dropped xs k y is)) ∙ whole)

  pub is_there : (xs : List X) (k : ℕ) → k < length xs → None ≡ option_map f (slice_get xs k) → ⊥
  is_there [] k within is = omega arith
  is_there (x ∷ xs) zero within is = cc
  is_there (x ∷ xs) (suc k) within is = is_there xs k (omega arith) is
