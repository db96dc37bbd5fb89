-- A search among rising numbers.
use Rattle.std.proofs.Common.{◌≡◌, ◌<◌, ◌≤◌, ◌⊎◌, ℕ, zero, suc, List, [], ◌∷◌, length, get_or, false, nat_eq, nat_cmp, Less, Equal, Greater, Some, None, inl, inr, refl, ◌∙◌, ap, arith}
use Rattle.std.proofs.lemmas.Bool.Decides.{nat_tests}
use Rattle.std.proofs.lemmas.Map.Lookups.{exact_unsigned}
use Rattle.std.specs.List.{HoldsAt}
use Rattle.std.specs.List.Sorted.{IsNonDecreasingBy, IsPartitionPoint}
use Rattle.std.specs.Map.{lookup}
use Rattle.std.specs.Ordering.{ordering_index}
use Rattle.pt_base.proofs.Booleans.{cond_false}
use Rattle.pt_base.proofs.Orders.{cmp_index_rises}
use Rattle.monitor_interp.specs.declared.seat.Seat.{Seat}
use Rattle.sessions.specs.Hubs.{Rise}
use Rattle.sessions.specs.Places.{StandsAt}

abbrev Seats : Type 0
Seats = List (ℕ × Seat)

-- ---- the numbers rise from place to place

number_least : (least end : ℕ) (xs : Seats) (i : ℕ) (d : ℕ × Seat) → Rise least end xs → i < length xs → least ≤ (get_or xs i d).0
number_least least end [] i d rise below = absurd (omega (arith, below))
number_least least end (x ∷ xs) zero d rise below = rise.0
number_least least end (x ∷ xs) (suc i) d rise below =
    let here = rise.0 in
    let later = number_least (suc x.0) end xs i d rise.2 (omega (arith, below)) in
    omega (arith, here, later)

numbers_rise : (least end : ℕ) (xs : Seats) (i j : ℕ) (d : ℕ × Seat) → Rise least end xs → i ≤ j → j < length xs → (get_or xs i d).0 ≤ (get_or xs j d).0
numbers_rise least end [] i j d rise le below = absurd (omega (arith, below))
numbers_rise least end (x ∷ xs) zero zero d rise le below = omega arith
numbers_rise least end (x ∷ xs) zero (suc j) d rise le below = let later = number_least (suc x.0) end xs j d rise.2 (omega (arith, below)) in omega (arith, later)
numbers_rise least end (x ∷ xs) (suc i) zero d rise le below = absurd (omega (arith, le))
numbers_rise least end (x ∷ xs) (suc i) (suc j) d rise le below = numbers_rise (suc x.0) end xs i j d rise.2 (omega (arith, le)) (omega (arith, below))

rises_to : (end s : ℕ) (xs : Seats) → Rise 0 end xs → IsNonDecreasingBy (λ (x : ℕ × Seat). ordering_index (nat_cmp x.0 s)) xs
rises_to end s xs rise = λ i j d le below. cmp_index_rises (get_or xs i d).0 (get_or xs j d).0 s (numbers_rise 0 end xs i j d rise le below)

-- ---- where the search ends

pub found_place : (s : ℕ) (xs : Seats) (i : ℕ) → i < length xs → HoldsAt (λ (x : ℕ × Seat). nat_cmp x.0 s ≡ Equal) xs i → StandsAt xs s i
found_place s [] i below equal = absurd (omega (arith, below))
found_place s (x ∷ xs) zero below equal = record { seat = x.1; stands = ap (λ n. Some (n, x.1)) (exact_unsigned x.0 s (equal x)) }
found_place s (x ∷ xs) (suc i) below equal = let rest = found_place s xs i (omega (arith, below)) equal in record { seat = rest.seat; stands = rest.stands }

less_other : (n s : ℕ) → nat_cmp n s ≡ Less → nat_eq s n ≡ false
less_other n s is = grind (arith, nat_tests, is)

greater_other : (n s : ℕ) → nat_cmp n s ≡ Greater → nat_eq s n ≡ false
greater_other n s is = grind (arith, nat_tests, is)

none_equal : (s : ℕ) (xs : Seats) → ((j : ℕ) (d : ℕ × Seat) → j < length xs → nat_eq s (get_or xs j d).0 ≡ false) → lookup (nat_eq s) xs ≡ None
none_equal s [] apart = refl
none_equal s (x ∷ xs) apart = cond_false (nat_eq s x.0) (Some x.1) (lookup (nat_eq s) xs) (apart 0 x (omega arith)) ∙ none_equal s xs (λ j d below. apart (suc j) d (omega (arith, below)))

abbrev Parts : ℕ → Seats → ℕ → Type 0
Parts s xs i = IsPartitionPoint (λ (x : ℕ × Seat). nat_cmp x.0 s ≡ Less) (λ (x : ℕ × Seat). nat_cmp x.0 s ≡ Greater) xs i

apart_at : (s : ℕ) (xs : Seats) (i : ℕ) → Parts s xs i → (j : ℕ) (d : ℕ × Seat) → j < length xs → (j < i) ⊎ (i ≤ j) → nat_eq s (get_or xs j d).0 ≡ false
apart_at s xs i parts j d below (inl less) = less_other (get_or xs j d).0 s (parts.0 j d (omega arith) less)
apart_at s xs i parts j d below (inr most) = greater_other (get_or xs j d).0 s (parts.1 j d most below)

less_or_most : (j i : ℕ) → (j < i) ⊎ (i ≤ j)
less_or_most zero zero = inr (omega arith)
less_or_most zero (suc i) = inl (omega arith)
less_or_most (suc j) zero = inr (omega arith)
less_or_most (suc j) (suc i) = more (less_or_most j i)
  where
    more : (j < i) ⊎ (i ≤ j) → (suc j < suc i) ⊎ (suc i ≤ suc j)
    more (inl less) = inl (omega (arith, less))
    more (inr most) = inr (omega (arith, most))

pub no_place : (end s : ℕ) (xs : Seats) (i : ℕ) → Rise 0 end xs → (IsNonDecreasingBy (λ (x : ℕ × Seat). ordering_index (nat_cmp x.0 s)) xs → Parts s xs i) → lookup (nat_eq s) xs ≡ None
no_place end s xs i rise parted = let parts = parted (rises_to end s xs rise) in none_equal s xs (λ j d below. apart_at s xs i parts j d below (less_or_most j i))
