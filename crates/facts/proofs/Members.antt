-- Members of lists: what is in a list, and what holds of all of them or of one.
use Rattle.facts.proofs.Booleans.{both_hold, both_hold_first, both_hold_second}
use Rattle.facts.proofs.Options.{some_same}
use Rattle.std.proofs.Common.{Bool, List, Some, [], ap, arith, get_or, inl, inr, length, refl, subst, suc, sym, true, zero, ℕ, ◌++◌, ◌+◌, ◌-◌, ◌<◌, ◌∙◌, ◌∷◌, ◌≡◌, ◌⊎◌}
use Rattle.std.proofs.lemmas.Bool.{or_left, or_right}
use Rattle.std.proofs.lemmas.List.Elements.{Contains-append_right, Contains-get_or}
use Rattle.std.proofs.lemmas.List.Folds.{list_all-append}
use Rattle.std.proofs.lemmas.List.FromFn.{get_or-range_with_len, length-range_with_len}
use Rattle.std.specs.List.{AllByRecursion, Contains, list_all, list_any, range_with_len}
use Rattle.std.specs.Prelude.{IsTrue, slice_get, ◌||◌}

pub contains_first : {X : Type 0} (x : X) (xs : List X) → Contains (x ∷ xs) x
contains_first x xs = (0, omega arith, refl)

pub contains_later : {X : Type 0} → (x : X) (xs : List X) (z : X) → Contains xs z → Contains (x ∷ xs) z
contains_later x xs z h = Contains-append_right (x ∷ []) xs z h

pub contains_cases : {X : Type 0} (y : X) (xs : List X) (x : X) → Contains (y ∷ xs) x → (y ≡ x) ⊎ Contains xs x
contains_cases y xs x (zero, lt, is) = inl is
contains_cases y xs x (suc k, lt, is) = inr (k, omega arith, is)

pub contains_nothing : {X : Type 0} (x : X) → Contains [] x → ⊥
contains_nothing x h = let lt : h.0 < 0 = h.1 in absurd (omega arith)

pub range_first : (k n : ℕ) → k < n → range_with_len k (n - k) ≡ k ∷ range_with_len (k + 1) (n - (k + 1))
range_first k n h = ap (range_with_len k) (let e : n - k ≡ suc (n - (k + 1)) = omega arith in e)

pub range_contains : (n m : ℕ) → m < n → Contains (range_with_len 0 n) m
range_contains n m lt =
    let long : length (range_with_len 0 n) ≡ n = length-range_with_len 0 n in
    let is : get_or (range_with_len 0 n) m 0 ≡ 0 + m = get_or-range_with_len 0 n m 0 lt in
    let there : Contains (range_with_len 0 n) (get_or (range_with_len 0 n) m 0) = Contains-get_or (range_with_len 0 n) m 0 (subst (λ k. m < k) (sym long) lt) in
    subst (λ k. Contains (range_with_len 0 n) k) (let e : get_or (range_with_len 0 n) m 0 ≡ m = omega (arith, is) in e) there

pub range_below : (n m : ℕ) → Contains (range_with_len 0 n) m → m < n
range_below n m h =
    let long : length (range_with_len 0 n) ≡ n = length-range_with_len 0 n in
    let lt : h.0 < n = subst (λ k. h.0 < k) long h.1 in
    let is : m ≡ 0 + h.0 = sym h.2 ∙ get_or-range_with_len 0 n h.0 m lt in
    omega (arith, is, lt)

pub each_implies : {A : Type 0} (P Q : A → Type 0) → ((x : A) → P x → Q x) → (xs : List A) → AllByRecursion P xs → AllByRecursion Q xs
each_implies P Q f [] h = tt
each_implies P Q f (x ∷ xs) h = (f x h.0, each_implies P Q f xs h.1)

pub all_hold_at : {X : Type 0} (p : X → Bool) → (xs : List X) (k : ℕ) (x : X) → IsTrue (list_all p xs) → slice_get xs k ≡ Some x → IsTrue (p x)
all_hold_at p [] k x h e = grind (arith, e)
all_hold_at p (y ∷ ys) zero x h e = grind (arith, e, both_hold_first (p y) (list_all p ys) h)
all_hold_at p (y ∷ ys) (suc k) x h e = all_hold_at p ys k x (both_hold_second (p y) (list_all p ys) h) e

pub all_hold_append : {X : Type 0} (p : X → Bool) (xs ys : List X) → IsTrue (list_all p xs) → IsTrue (list_all p ys) → IsTrue (list_all p (xs ++ ys))
all_hold_append p xs ys h k = list_all-append p xs ys ∙ both_hold (list_all p xs) (list_all p ys) h k

pub all_true_at : {A : Type 0} (test : A → Bool) (xs : List A) (k : ℕ) (x : A) → list_all test xs ≡ true → slice_get xs k ≡ Some x → test x ≡ true
all_true_at test [] k x h is = cc
all_true_at test (y ∷ ys) zero x h is = subst (λ z. test z ≡ true) (some_same y x is) (both_hold_first (test y) (list_all test ys) h)
all_true_at test (y ∷ ys) (suc k) x h is = all_true_at test ys k x (both_hold_second (test y) (list_all test ys) h) is

pub all_true_append : {A : Type 0} (test : A → Bool) (xs ys : List A) → list_all test xs ≡ true → list_all test ys ≡ true → list_all test (xs ++ ys) ≡ true
all_true_append test [] ys h k = k
all_true_append test (x ∷ xs) ys h k = both_hold (test x) (list_all test (xs ++ ys)) (both_hold_first (test x) (list_all test xs) h) (all_true_append test xs ys (both_hold_second (test x) (list_all test xs) h) k)

pub all_true_numbers_append : (m : ℕ → Bool) (xs ys : List ℕ) → list_all m xs ≡ true → list_all m ys ≡ true → list_all m (xs ++ ys) ≡ true
all_true_numbers_append m [] ys h k = k
all_true_numbers_append m (x ∷ xs) ys h k = both_hold (m x) (list_all m (xs ++ ys)) (both_hold_first (m x) (list_all m xs) h) (all_true_numbers_append m xs ys (both_hold_second (m x) (list_all m xs) h) k)

pub any_true : {X : Type 0} (test : X → Bool) (xs : List X) (x : X) → Contains xs x → test x ≡ true → list_any test xs ≡ true
any_true test [] x h e = absurd (contains_nothing x h)
any_true {X} test (y ∷ ys) x h e = go (λ i. any_true test ys x i e) (contains_cases y ys x h)
  where
    go : (Contains ys x → list_any test ys ≡ true) → (y ≡ x) ⊎ Contains ys x → (test y || list_any test ys) ≡ true
    go rest (inl s) = or_left (test y) (list_any test ys) (ap test s ∙ e)
    go rest (inr i) = or_right (test y) (list_any test ys) (rest i)
