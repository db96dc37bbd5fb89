-- Lists that are empty, what stands at a place of a list, and tests of all elements.
use Rattle.std.proofs.Common.{◌≡◌, ℕ, zero, suc, refl, List, [], ◌∷◌, ◌++◌, length, Some, ◌⊎◌, inl, inr}
use Rattle.std.specs.Prelude.{slice_get}

pub get_end : {X : Type 0} (xs ys : List X) (y : X) → slice_get (xs ++ y ∷ ys) (length xs) ≡ Some y
get_end [] ys y = refl
get_end (x ∷ xs) ys y = get_end xs ys y

-- what stands in a list with one more element is that element or stood there before
pub get_pushed : {X : Type 0} (xs : List X) (y : X) (k : ℕ) (x : X) → slice_get (xs ++ y ∷ []) k ≡ Some x → (slice_get xs k ≡ Some x) ⊎ (y ≡ x)
get_pushed [] y zero x h = inr (cc)
get_pushed [] y (suc k) x h = inl h
get_pushed (z ∷ xs) y zero x h = inl h
get_pushed (z ∷ xs) y (suc k) x h = get_pushed xs y k x h
