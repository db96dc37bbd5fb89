-- Lists in the order of their numbers, and searches among them.
use Rattle.std.proofs.Common.{◌≡◌, ◌≤◌, ◌<◌, ◌⊎◌, inl, inr, sym, ap, refl, ℕ, zero, suc, Bool, true, false, List, [], ◌∷◌, length, map, arith, get_or, nat_eq, nat_cmp, Less, Equal, Greater, Some, Result, Ok, Err}
use Rattle.std.specs.Prelude.{IsTrue, ◌||◌, if◌then◌else◌, nat_le, is_some}
use Rattle.std.specs.Result.{is_ok}
use Rattle.std.specs.List.{find, list_any}
use Rattle.std.specs.List.Sorted.{IsBinarySearchResult, IsPartitionPoint, IsSearchInRange}
use Rattle.std.proofs.lemmas.Bool.{cases_lt}
use Rattle.std.proofs.lemmas.Bool.Decides.{nat_tests}
use Rattle.std.proofs.lemmas.List.Folds.{list_any_at, list_any_none}
use Rattle.pt_base.proofs.Booleans.{both_hold_first, both_hold_second}
use Rattle.pt_base.proofs.Orders.{cmp_index_rises}
use Rattle.typed_tree.specs.WellFormed.{are_rising}

-- ---- order

above : {X : Type 0} (key : X → ℕ) (low : ℕ) (xs : List X) (j : ℕ) (d : X) → IsTrue (are_rising low (map key xs)) → j < length xs → low ≤ key (get_or xs j d)
above key low [] j d h within = absurd (omega arith)
above key low (x ∷ xs) zero d h within = let first = both_hold_first (nat_le low (key x)) (are_rising (suc (key x)) (map key xs)) h in grind (arith, nat_tests, first)
above key low (x ∷ xs) (suc j) d h within =
    let first = both_hold_first (nat_le low (key x)) (are_rising (suc (key x)) (map key xs)) h in
    let later = above key (suc (key x)) xs j d (both_hold_second (nat_le low (key x)) (are_rising (suc (key x)) (map key xs)) h) (omega arith) in
    let least : low ≤ key x = grind (arith, nat_tests, first) in
    omega (arith, least, later)

rises : {X : Type 0} (key : X → ℕ) (low : ℕ) (xs : List X) (i j : ℕ) (d : X) → IsTrue (are_rising low (map key xs)) → i ≤ j → j < length xs → key (get_or xs i d) ≤ key (get_or xs j d)
rises key low [] i j d h le within = absurd (omega arith)
rises key low (x ∷ xs) zero zero d h le within = omega arith
rises key low (x ∷ xs) zero (suc j) d h le within =
    let later = above key (suc (key x)) xs j d (both_hold_second (nat_le low (key x)) (are_rising (suc (key x)) (map key xs)) h) (omega arith) in
    omega (arith, later)
rises key low (x ∷ xs) (suc i) zero d h le within = absurd (omega arith)
rises key low (x ∷ xs) (suc i) (suc j) d h le within = rises key (suc (key x)) xs i j d (both_hold_second (nat_le low (key x)) (are_rising (suc (key x)) (map key xs)) h) (omega arith) (omega arith)

-- ---- searches

is_equal : (x f : ℕ) → nat_cmp x f ≡ Equal → nat_eq f x ≡ true
is_equal x f h = grind (arith, nat_tests)

is_less : (x f : ℕ) → nat_cmp x f ≡ Less → nat_eq f x ≡ false
is_less x f h = grind (arith, nat_tests)

is_greater : (x f : ℕ) → nat_cmp x f ≡ Greater → nat_eq f x ≡ false
is_greater x f h = grind (arith, nat_tests)

none_equal : {X : Type 0} (key : X → ℕ) (xs : List X) (f i k : ℕ) (d : X) → IsPartitionPoint (λ x. nat_cmp (key x) f ≡ Less) (λ x. nat_cmp (key x) f ≡ Greater) xs i → k < length xs → nat_eq f (key (get_or xs k d)) ≡ false
none_equal key xs f i k d halves within = go (cases_lt k i)
  where
    go : (k < i) ⊎ (i ≤ k) → nat_eq f (key (get_or xs k d)) ≡ false
    go (inl before) = is_less (key (get_or xs k d)) f (halves.0 k d (omega arith) before)
    go (inr behind) = is_greater (key (get_or xs k d)) f (halves.1 k d behind within)

-- a search by halves tells whether there is such a number
pub searched : {X : Type 0} (key : X → ℕ) (xs : List X) (f : ℕ) (r : Result ℕ ℕ) → IsTrue (are_rising 0 (map key xs)) → IsSearchInRange r (length xs) → IsBinarySearchResult (λ x. nat_cmp (key x) f) xs r →
    is_ok r ≡ list_any (λ x. nat_eq f (key x)) xs
searched key [] f (Ok i) rising within found = absurd (omega arith)
searched key (x ∷ xs) f (Ok i) rising within found = sym (list_any_at (λ y. nat_eq f (key y)) (x ∷ xs) i x within (is_equal (key (get_or (x ∷ xs) i x)) f (found x)))
searched key xs f (Err i) rising within parted =
    let halves = parted (λ j k d le inside. cmp_index_rises (key (get_or xs j d)) (key (get_or xs k d)) f (rises key 0 xs j k d rising le inside)) in
    sym (list_any_none (λ y. nat_eq f (key y)) xs (λ k d inside. none_equal key xs f i k d halves inside))

-- ---- the same of lists that are seen otherwise

pub any_map : {X Y : Type 0} (p : Y → Bool) (h : X → Y) (xs : List X) → list_any p (map h xs) ≡ list_any (λ x. p (h x)) xs
any_map p h [] = refl
any_map p h (x ∷ xs) = ap (λ b. p (h x) || b) (any_map p h xs)

pub some_found : {X : Type 0} (p : X → Bool) (xs : List X) → is_some (find p xs) ≡ list_any p xs
some_found p [] = refl
some_found p (x ∷ xs) = go (p x) (some_found p xs)
  where
    go : (b : Bool) → is_some (find p xs) ≡ list_any p xs → is_some (if b then Some x else find p xs) ≡ (b || list_any p xs)
    go true later = refl
    go false later = later
