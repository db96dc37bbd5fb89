-- What tests choose of numbered lists.
use Rattle.std.proofs.Common.{◌≡◌, ◌∙◌, ◌≤◌, ℕ, suc, refl, ap, sym, arith, Bool, true, false, cond, not, Some, List, [], ◌∷◌, ◌++◌, map}
use Rattle.std.specs.Prelude.{nat_eq, nat_le, is_some, sum_by}
use Rattle.std.specs.List.{list_all, find, filter, AllByRecursion}
use Rattle.std.specs.Map.{lookup}
use Rattle.std.proofs.lemmas.Bool.Decides.{nat_tests}
use Rattle.std.proofs.lemmas.List.Filters.{sum_by-filter_both}
use Rattle.pt_base.proofs.Booleans.{both_hold, both_hold_first, both_hold_second, cond_false, cond_true, false_not_true}
use Rattle.pt_base.proofs.Numbers.{nat_eq_same}
use Rattle.typed_tree.specs.WellFormed.{are_rising}

-- ---- what holds of each

pub each_both : {A : Type 0} (P : A → Type 0) (xs ys : List A) → AllByRecursion P xs → AllByRecursion P ys → AllByRecursion P (xs ++ ys)
each_both P [] ys h i = i
each_both P (x ∷ xs) ys h i = (h.0, each_both P xs ys h.1 i)

pub each_chosen : {A : Type 0} (P : A → Type 0) (test : A → Bool) (xs : List A) → AllByRecursion (λ (x : A). test x ≡ true → P x) xs → AllByRecursion P (filter test xs)
each_chosen P test [] h = tt
each_chosen {A} P test (x ∷ xs) h = go (each_chosen P test xs h.1) (test x) refl
  where
    go : AllByRecursion P (filter test xs) → (b : Bool) → test x ≡ b → AllByRecursion P (cond b (x ∷ filter test xs) (filter test xs))
    go rest true e = (h.0 e, rest)
    go rest false e = rest

pub all_of_each : {A : Type 0} (test : A → Bool) (xs : List A) → AllByRecursion (λ (x : A). test x ≡ true) xs → list_all test xs ≡ true
all_of_each test [] h = refl
all_of_each test (x ∷ xs) h = both_hold (test x) (list_all test xs) h.0 (all_of_each test xs h.1)

pub each_of_all : {A : Type 0} (test : A → Bool) (xs : List A) → list_all test xs ≡ true → AllByRecursion (λ (x : A). test x ≡ true) xs
each_of_all test [] h = tt
each_of_all test (x ∷ xs) h = (both_hold_first (test x) (list_all test xs) h, each_of_all test xs (both_hold_second (test x) (list_all test xs) h))

pub all_first : {A : Type 0} (test : A → Bool) (xs ys : List A) → list_all test (xs ++ ys) ≡ true → list_all test xs ≡ true
all_first test [] ys h = refl
all_first test (x ∷ xs) ys h = both_hold (test x) (list_all test xs) (both_hold_first (test x) (list_all test (xs ++ ys)) h) (all_first test xs ys (both_hold_second (test x) (list_all test (xs ++ ys)) h))

pub all_rest : {A : Type 0} (test : A → Bool) (xs ys : List A) → list_all test (xs ++ ys) ≡ true → list_all test ys ≡ true
all_rest test [] ys h = h
all_rest test (x ∷ xs) ys h = all_rest test xs ys (both_hold_second (test x) (list_all test (xs ++ ys)) h)

-- ---- what was true of all

pub all_chosen : {A : Type 0} (keep test : A → Bool) (xs : List A) → list_all keep xs ≡ true → list_all keep (filter test xs) ≡ true
all_chosen keep test [] h = refl
all_chosen {A} keep test (x ∷ xs) h = go (all_chosen keep test xs (both_hold_second (keep x) (list_all keep xs) h)) (test x)
  where
    go : list_all keep (filter test xs) ≡ true → (b : Bool) → list_all keep (cond b (x ∷ filter test xs) (filter test xs)) ≡ true
    go rest true = both_hold (keep x) (list_all keep (filter test xs)) (both_hold_first (keep x) (list_all keep xs) h) rest
    go rest false = rest

lower : (m k n : ℕ) → m ≤ k → nat_le k n ≡ true → nat_le m n ≡ true
lower m k n h i = grind (arith, nat_tests, h, i)

below_next : (m k n : ℕ) → m ≤ k → nat_le k n ≡ true → m ≤ suc n
below_next m k n h i = let l : k ≤ n = grind (arith, nat_tests, i) in omega (arith, h, l)

pub chosen_rise : {A : Type 0} (number : A → ℕ) (test : A → Bool) (k m : ℕ) (xs : List A) → m ≤ k → are_rising k (map number xs) ≡ true → are_rising m (map number (filter test xs)) ≡ true
chosen_rise number test k m [] h r = refl
chosen_rise {A} number test k m (x ∷ xs) h r =
    let first = both_hold_first (nat_le k (number x)) (are_rising (suc (number x)) (map number xs)) r in
    let rest = both_hold_second (nat_le k (number x)) (are_rising (suc (number x)) (map number xs)) r in
    go (both_hold (nat_le m (number x)) (are_rising (suc (number x)) (map number (filter test xs))) (lower m k (number x) h first) (chosen_rise number test (suc (number x)) (suc (number x)) xs (omega arith) rest))
    (chosen_rise number test (suc (number x)) m xs (below_next m k (number x) h first) rest) (test x)
  where
    go : are_rising m (map number (x ∷ filter test xs)) ≡ true → are_rising m (map number (filter test xs)) ≡ true → (b : Bool) → are_rising m (map number (cond b (x ∷ filter test xs) (filter test xs))) ≡ true
    go taken left true = taken
    go taken left false = left

pub chosen_sum : {A : Type 0} (f : A → ℕ) (test : A → Bool) (xs : List A) → sum_by f (filter test xs) ≤ sum_by f xs
chosen_sum {A} f test xs = omega (arith, sum_by-filter_both test (λ (x : A). not (test x)) (λ _. refl) f xs)

-- ---- what a number finds

-- a number that is chosen if it is there
pub chosen_lookup : {V : Type 0} (has : ℕ → Bool) (n : ℕ) (xs : List (ℕ × V)) → (is_some (lookup (nat_eq n) xs) ≡ true → has n ≡ true) → lookup (nat_eq n) (filter (λ (x : ℕ × V). has x.0) xs) ≡ lookup (nat_eq n) xs
chosen_lookup has n [] h = refl
chosen_lookup {V} has n (x ∷ xs) h = go (λ i. chosen_lookup has n xs i) (nat_eq n x.0) refl (has x.0) refl h
  where
    go : ((is_some (lookup (nat_eq n) xs) ≡ true → has n ≡ true) → lookup (nat_eq n) (filter (λ (x : ℕ × V). has x.0) xs) ≡ lookup (nat_eq n) xs) → (same : Bool) → nat_eq n x.0 ≡ same → (kept : Bool) → has x.0 ≡ kept →
        (is_some (cond same (Some x.1) (lookup (nat_eq n) xs)) ≡ true → has n ≡ true) →
        lookup (nat_eq n) (cond kept (x ∷ filter (λ (x : ℕ × V). has x.0) xs) (filter (λ (x : ℕ × V). has x.0) xs)) ≡ cond same (Some x.1) (lookup (nat_eq n) xs)
    go rest true e true f k = cond_true (nat_eq n x.0) (Some x.1) (lookup (nat_eq n) (filter (λ (x : ℕ × V). has x.0) xs)) e
    go rest true e false f k = false_not_true (sym f ∙ ap has (sym (nat_eq_same n x.0 e)) ∙ k refl)
    go rest false e true f k = cond_false (nat_eq n x.0) (Some x.1) (lookup (nat_eq n) (filter (λ (x : ℕ × V). has x.0) xs)) e ∙ rest k
    go rest false e false f k = rest k

pub chosen_find : {A : Type 0} (number : A → ℕ) (has : ℕ → Bool) (n : ℕ) (xs : List A) → has n ≡ true → find (λ (x : A). nat_eq n (number x)) (filter (λ (x : A). has (number x)) xs) ≡ find (λ (x : A). nat_eq n (number x)) xs
chosen_find number has n [] h = refl
chosen_find {A} number has n (x ∷ xs) h = go (chosen_find number has n xs h) (nat_eq n (number x)) refl (has (number x)) refl
  where
    go : find (λ (x : A). nat_eq n (number x)) (filter (λ (x : A). has (number x)) xs) ≡ find (λ (x : A). nat_eq n (number x)) xs → (same : Bool) → nat_eq n (number x) ≡ same → (kept : Bool) → has (number x) ≡ kept →
        find (λ (x : A). nat_eq n (number x)) (cond kept (x ∷ filter (λ (x : A). has (number x)) xs) (filter (λ (x : A). has (number x)) xs)) ≡ cond same (Some x) (find (λ (x : A). nat_eq n (number x)) xs)
    go rest true e true f = cond_true (nat_eq n (number x)) (Some x) (find (λ (x : A). nat_eq n (number x)) (filter (λ (x : A). has (number x)) xs)) e
    go rest true e false f = false_not_true (sym f ∙ ap has (sym (nat_eq_same n (number x) e)) ∙ h)
    go rest false e true f = cond_false (nat_eq n (number x)) (Some x) (find (λ (x : A). nat_eq n (number x)) (filter (λ (x : A). has (number x)) xs)) e ∙ rest
    go rest false e false f = rest
