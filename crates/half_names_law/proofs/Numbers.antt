-- Places and numbers: what stands at a place of a list that is ordered by numbers.
use Rattle.std.proofs.Common.{◌≡◌, ◌∙◌, ◌<◌, ◌≤◌, sym, refl, ℕ, zero, suc, Bool, true, false, List, [], ◌∷◌, map, Some, arith, if◌then◌else◌}
use Rattle.std.specs.Prelude.{nat_eq, nat_le, nat_lt, slice_get}
use Rattle.std.specs.Map.{lookup}
use Rattle.std.proofs.lemmas.Bool.Decides.{nat_tests}
use Rattle.typed_tree.specs.WellFormed.{are_rising}
use Rattle.half_names_law.specs.Standing.{number_in}
use Rattle.pt_base.proofs.Booleans.{and_parts}
use Rattle.pt_base.proofs.Numbers.{nat_eq_same}

-- ---- numbers by place

pub number_at : (first : ℕ) (ns : List ℕ) (k n : ℕ) → slice_get ns k ≡ Some n → number_in first ns k ≡ n
number_at first [] k n h = cc
number_at first (m ∷ ns) zero n h = cc
number_at first (m ∷ ns) (suc k) n h = number_at (suc m) ns k n h

-- where they rise, later places have higher numbers
number_least : (first : ℕ) (ns : List ℕ) (k : ℕ) → are_rising first ns ≡ true → first ≤ number_in first ns k
number_least first [] zero h = omega arith
number_least first [] (suc k) h = let again = number_least first [] k h in omega (arith, again)
number_least first (m ∷ ns) zero h = let parts = and_parts (nat_le first m) (are_rising (suc m) ns) h in grind (arith, nat_tests, parts.0)
number_least first (m ∷ ns) (suc k) h =
    let parts = and_parts (nat_le first m) (are_rising (suc m) ns) h in
    let low : first ≤ m = grind (arith, nat_tests, parts.0) in
    let again = number_least (suc m) ns k parts.1 in omega (arith, low, again)

number_rises : (first : ℕ) (ns : List ℕ) (j k : ℕ) → are_rising first ns ≡ true → j < k → number_in first ns j < number_in first ns k
number_rises first ns j zero h less = absurd (omega (arith, less))
number_rises first [] zero (suc k) h less = let low = number_least first [] k h in omega (arith, low)
number_rises first [] (suc j) (suc k) h less = let again = number_rises first [] j k h (omega (arith, less)) in omega (arith, again)
number_rises first (m ∷ ns) zero (suc k) h less = let low = number_least (suc m) ns k (and_parts (nat_le first m) (are_rising (suc m) ns) h).1 in omega (arith, low)
number_rises first (m ∷ ns) (suc j) (suc k) h less = number_rises (suc m) ns j k (and_parts (nat_le first m) (are_rising (suc m) ns) h).1 (omega (arith, less))

-- so different places have different numbers
pub number_once : (first : ℕ) (ns : List ℕ) (j k : ℕ) → are_rising first ns ≡ true → number_in first ns j ≡ number_in first ns k → j ≡ k
number_once first ns j k h same = go (nat_lt j k) (nat_lt k j) refl refl
  where
    go : (a b : Bool) → nat_lt j k ≡ a → nat_lt k j ≡ b → j ≡ k
    go true b is other = let less : j < k = grind (arith, nat_tests, is) in let up = number_rises first ns j k h less in absurd (omega (arith, same, up))
    go false true is other = let less : k < j = grind (arith, nat_tests, other) in let up = number_rises first ns k j h less in absurd (omega (arith, same, up))
    go false false is other = grind (arith, nat_tests, is, other)

pub once_there : (first : ℕ) (ns : List ℕ) (j k n : ℕ) → are_rising first ns ≡ true → slice_get ns j ≡ Some n → slice_get ns k ≡ Some n → j ≡ k
once_there first ns j k n h p q = number_once first ns j k h (number_at first ns j n p ∙ sym (number_at first ns k n q))

-- ---- a list of numbered things

module _ {A : Type 0} where
  -- what a number names stands at a place
  pub record Place (xs : List (ℕ × A)) (n : ℕ) (x : A) : Type 0 where
    pub place : ℕ
    pub there : slice_get xs place ≡ Some (n, x)

  lookup_first : (y : ℕ × A) (ys : List (ℕ × A)) (n : ℕ) (x : A) (b : Bool) → nat_eq n y.0 ≡ b → (lookup (nat_eq n) ys ≡ Some x → Place ys n x) → (if b then Some y.1 else lookup (nat_eq n) ys) ≡ Some x → Place (y ∷ ys) n x
  lookup_first y ys n x true is again e = record { place = 0; there = λ i. Some (sym (nat_eq_same n y.0 is) i, value e i) }
    where
      value : Some y.1 ≡ Some x → y.1 ≡ x
      value e = cc
  lookup_first y ys n x false is again e = let behind = again e in record { place = suc behind.place; there = behind.there }

  pub lookup_place : (xs : List (ℕ × A)) (n : ℕ) (x : A) → lookup (nat_eq n) xs ≡ Some x → Place xs n x
  lookup_place [] n x h = cc
  lookup_place (y ∷ ys) n x h = lookup_first y ys n x (nat_eq n y.0) refl (lookup_place ys n x) h

pub mapped_back : {A B : Type 0} (f : A → B) (xs : List A) (k : ℕ) (y : B) → slice_get (map f xs) k ≡ Some y → (x : A) × (slice_get xs k ≡ Some x) × (f x ≡ y)
mapped_back f [] k y h = cc
mapped_back f (x ∷ xs) zero y h = (x, refl, same h)
  where
    same : Some (f x) ≡ Some y → f x ≡ y
    same e = cc
mapped_back f (x ∷ xs) (suc k) y h = mapped_back f xs k y h
