-- Tests of two parts and of lists.
use Rattle.std.proofs.Common.{◌≡◌, ℕ, zero, suc, ◌+◌, ◌<◌, ◌≤◌, Bool, true, List, [], ◌∷◌, refl, map, get_or, drop, arith}
use Rattle.std.specs.Prelude.{◌&&◌}
use Rattle.std.specs.List.{list_all, range_with_len}
use Rattle.std.proofs.lemmas.Bool.{and_parts, and_from}

pub both : {a b : Bool} → a ≡ true → b ≡ true → (a && b) ≡ true
both p q = and_from _ _ p q

pub all_mapped : {X Y : Type 0} (p : Y → Bool) (f : X → Y) → ((x : X) → p (f x) ≡ true) → (xs : List X) → list_all p (map f xs) ≡ true
all_mapped p f each [] = refl
all_mapped p f each (x ∷ xs) = both (each x) (all_mapped p f each xs)

-- of those that pass a test
pub all_mapped_where : {X Y : Type 0} (t : X → Bool) (p : Y → Bool) (f : X → Y) → ((x : X) → t x ≡ true → p (f x) ≡ true) → (xs : List X) → list_all t xs ≡ true → list_all p (map f xs) ≡ true
all_mapped_where t p f each [] h = refl
all_mapped_where t p f each (x ∷ xs) h = let parts = and_parts (t x) (list_all t xs) h in both (each x parts.0) (all_mapped_where t p f each xs parts.1)

pub all_got : {X : Type 0} (p : X → Bool) (xs : List X) (n : ℕ) (d : X) → list_all p xs ≡ true → p d ≡ true → p (get_or xs n d) ≡ true
all_got p [] n d h k = k
all_got p (x ∷ xs) zero d h k = (and_parts (p x) (list_all p xs) h).0
all_got p (x ∷ xs) (suc n) d h k = all_got p xs n d (and_parts (p x) (list_all p xs) h).1 k

pub all_dropped : {X : Type 0} (p : X → Bool) (n : ℕ) (xs : List X) → list_all p xs ≡ true → list_all p (drop n xs) ≡ true
all_dropped p zero xs h = h
all_dropped p (suc n) [] h = refl
all_dropped p (suc n) (x ∷ xs) h = all_dropped p n xs (and_parts (p x) (list_all p xs) h).1

-- of the numbers from the first on, which are all below the last
pub all_ranged : {Y : Type 0} (p : Y → Bool) (f : ℕ → Y) (last : ℕ) → ((n : ℕ) → n < last → p (f n) ≡ true) → (first count : ℕ) → first + count ≤ last → list_all p (map f (range_with_len first count)) ≡ true
all_ranged p f last each first zero low = refl
all_ranged p f last each first (suc count) low = both (each first (omega (arith, low))) (all_ranged p f last each (first + 1) count (omega (arith, low)))
