-- Lists by number, and tests of all their elements.
use Rattle.std.proofs.Common.{◌≡◌, ◌++◌, ◌∙◌, sym, ap, refl, ℕ, zero, suc, Bool, true, false, List, [], ◌∷◌, length, arith, map, Some, inl, inr, slice_set}
use Rattle.std.specs.Prelude.{IsTrue, ◌||◌, ◌⊎◌, slice_get}
use Rattle.std.specs.List.{All, list_all, list_any}
use Rattle.std.proofs.lemmas.List.Elements.{All-nil, All-cons}
use Rattle.pt_base.proofs.Booleans.{both_hold, both_hold_first, both_hold_second, either_holds_second}

-- ---- tests

pub or_left : (a b : Bool) → IsTrue a → IsTrue (a || b)
or_left true b h = refl
or_left false b h = cc

-- ---- elements by number

-- an element of a longer list is one of the shorter, or the last
pub record IsLast {X : Type 0} (xs : List X) (y : X) (k : ℕ) (z : X) : Type 0 where
  pub at : k ≡ length xs
  pub is : z ≡ y

pub get_pushed : {X : Type 0} (xs : List X) (y : X) (k : ℕ) (z : X) → slice_get (xs ++ y ∷ []) k ≡ Some z → (slice_get xs k ≡ Some z) ⊎ IsLast xs y k z
get_pushed [] y zero z h = inr (record { at = refl; is = cc })
get_pushed [] y (suc k) z h = cc
get_pushed (x ∷ xs) y zero z h = inl h
get_pushed (x ∷ xs) y (suc k) z h = elim (get_pushed xs y k z h) [ inl e ↦ inl e | inr e ↦ inr (record { at = ap suc e.at; is = e.is }) ]

pub get_set_same : {X : Type 0} (xs : List X) (k : ℕ) (x y : X) → slice_get xs k ≡ Some x → slice_get (slice_set xs k y) k ≡ Some y
get_set_same [] k x y h = cc
get_set_same (z ∷ xs) zero x y h = refl
get_set_same (z ∷ xs) (suc k) x y h = get_set_same xs k x y h

pub record IsSet {X : Type 0} (k j : ℕ) (y z : X) : Type 0 where
  pub at : j ≡ k
  pub is : z ≡ y

pub record IsOther {X : Type 0} (xs : List X) (k j : ℕ) (z : X) : Type 0 where
  pub apart : j ≡ k → ⊥
  pub is : slice_get xs j ≡ Some z

pub get_set : {X : Type 0} (xs : List X) (k j : ℕ) (y z : X) → slice_get (slice_set xs k y) j ≡ Some z → IsOther xs k j z ⊎ IsSet k j y z
get_set [] k j y z h = cc
get_set (x ∷ xs) zero zero y z h = inr (record { at = refl; is = cc })
get_set (x ∷ xs) zero (suc j) y z h = inl (record { apart = λ e. omega arith; is = h })
get_set (x ∷ xs) (suc k) zero y z h = inl (record { apart = λ e. omega arith; is = h })
get_set (x ∷ xs) (suc k) (suc j) y z h = elim (get_set xs k j y z h) [ inl e ↦ inl (record { apart = λ i. e.apart (omega arith); is = e.is }) | inr e ↦ inr (record { at = ap suc e.at; is = e.is }) ]

pub length_set : {X : Type 0} (xs : List X) (k : ℕ) (y : X) → length (slice_set xs k y) ≡ length xs
length_set [] k y = refl
length_set (x ∷ xs) zero y = refl
length_set (x ∷ xs) (suc k) y = ap suc (length_set xs k y)

pub get_unmapped : {X Y : Type 0} (f : X → Y) (xs : List X) (k : ℕ) (y : Y) → slice_get (map f xs) k ≡ Some y → (x : X) × (slice_get xs k ≡ Some x) × (y ≡ f x)
get_unmapped f [] k y h = cc
get_unmapped f (x ∷ xs) zero y h = let e : f x ≡ y = cc in (x, refl, sym e)
get_unmapped f (x ∷ xs) (suc k) y h = get_unmapped f xs k y h

-- ---- a test of all elements

pub all_of : {X : Type 0} (p : X → Bool) (xs : List X) → ((k : ℕ) (x : X) → slice_get xs k ≡ Some x → IsTrue (p x)) → IsTrue (list_all p xs)
all_of p [] h = refl
all_of p (x ∷ xs) h = both_hold (p x) (list_all p xs) (h 0 x refl) (all_of p xs (λ k y e. h (suc k) y e))

pub any_of : {X : Type 0} (p : X → Bool) (xs : List X) (k : ℕ) (x : X) → slice_get xs k ≡ Some x → IsTrue (p x) → IsTrue (list_any p xs)
any_of p [] k x h i = cc
any_of p (y ∷ xs) zero x h i = let e : y ≡ x = cc in or_left (p y) (list_any p xs) (ap p e ∙ i)
any_of p (y ∷ xs) (suc k) x h i = either_holds_second (p y) (list_any p xs) (any_of p xs k x h i)

pub all_weaker : {X : Type 0} (p q : X → Bool) → ((x : X) → IsTrue (p x) → IsTrue (q x)) → (xs : List X) → IsTrue (list_all p xs) → IsTrue (list_all q xs)
all_weaker p q f [] h = refl
all_weaker p q f (x ∷ xs) h = both_hold (q x) (list_all q xs) (f x (both_hold_first (p x) (list_all p xs) h)) (all_weaker p q f xs (both_hold_second (p x) (list_all p xs) h))

pub all_pass : {X : Type 0} (p : X → Bool) (xs : List X) → IsTrue (list_all p xs) → All (λ x. IsTrue (p x)) xs
all_pass p [] h = All-nil (λ x. IsTrue (p x))
all_pass p (x ∷ xs) h = All-cons (λ x. IsTrue (p x)) x xs (both_hold_first (p x) (list_all p xs) h) (all_pass p xs (both_hold_second (p x) (list_all p xs) h))

-- an element after another one was changed
pub get_after_set : {X : Type 0} (xs : List X) (k j : ℕ) (x y z : X) → slice_get xs k ≡ Some x → slice_get xs j ≡ Some z → (slice_get (slice_set xs k y) j ≡ Some z) ⊎ IsSet k j x z
get_after_set [] k j x y z h i = cc
get_after_set (w ∷ xs) zero zero x y z h i = inr (record { at = refl; is = cc })
get_after_set (w ∷ xs) zero (suc j) x y z h i = inl i
get_after_set (w ∷ xs) (suc k) zero x y z h i = inl i
get_after_set (w ∷ xs) (suc k) (suc j) x y z h i = elim (get_after_set xs k j x y z h i) [ inl e ↦ inl e | inr e ↦ inr (record { at = ap suc e.at; is = e.is }) ]
