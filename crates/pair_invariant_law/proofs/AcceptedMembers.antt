-- Members of lists, and what numbers find among what a test chose.
use Rattle.std.proofs.Common.{◌≡◌, ◌∙◌, ℕ, zero, suc, refl, ap, sym, subst, ◌⊎◌, inl, inr, Bool, true, false, cond, Option, Some, None, List, [], ◌∷◌, map, option_map}
use Rattle.std.specs.Prelude.{is_some, nat_eq, slice_get}
use Rattle.std.specs.List.{Contains, AllByRecursion, filter, find, flat_map, list_all, list_any}
use Rattle.std.specs.Map.{lookup}
use Rattle.pt_base.proofs.Booleans.{both_hold_first, both_hold_second, cond_false, cond_true, false_not_true, or_false_first, or_false_second}
use Rattle.pt_base.proofs.Lists.{append_nil_first, append_nil_second}
use Rattle.pt_base.proofs.Members.{contains_cases, contains_first, contains_later, contains_nothing}
use Rattle.pt_base.proofs.Numbers.{nat_eq_same, nat_eq_self}
use Rattle.pt_base.proofs.Options.{some_same}

pub some_is : {A : Type 0} (o : Option A) → is_some o ≡ true → (x : A) × (o ≡ Some x)
some_is None h = false_not_true h
some_is (Some x) h = (x, refl)

-- ---- members

pub listed : {A : Type 0} (xs : List A) (k : ℕ) (x : A) → slice_get xs k ≡ Some x → Contains xs x
listed [] k x is = cc
listed (y ∷ ys) zero x is = subst (λ z. Contains (y ∷ ys) z) (some_same y x is) (contains_first y ys)
listed (y ∷ ys) (suc k) x is = contains_later y ys x (listed ys k x is)

pub all_at : {A : Type 0} (test : A → Bool) (xs : List A) (x : A) → Contains xs x → list_all test xs ≡ true → test x ≡ true
all_at test [] x h k = absurd (contains_nothing x h)
all_at {A} test (y ∷ ys) x h k = go (λ i. all_at test ys x i (both_hold_second (test y) (list_all test ys) k)) (contains_cases y ys x h)
  where
    go : (Contains ys x → test x ≡ true) → (y ≡ x) ⊎ Contains ys x → test x ≡ true
    go rest (inl s) = ap test (sym s) ∙ both_hold_first (test y) (list_all test ys) k
    go rest (inr i) = rest i

pub each_at : {A : Type 0} (P : A → Type 0) (xs : List A) (x : A) → AllByRecursion P xs → Contains xs x → P x
each_at P [] x h k = absurd (contains_nothing x k)
each_at {A} P (y ∷ ys) x h k = go (λ i. each_at P ys x h.1 i) (contains_cases y ys x k)
  where
    go : (Contains ys x → P x) → (y ≡ x) ⊎ Contains ys x → P x
    go rest (inl s) = subst P s h.0
    go rest (inr i) = rest i

pub none_passes : {A : Type 0} (test : A → Bool) (xs : List A) (x : A) → Contains xs x → list_any test xs ≡ false → test x ≡ false
none_passes test [] x h e = absurd (contains_nothing x h)
none_passes {A} test (y ∷ ys) x h e = go (λ i. none_passes test ys x i (or_false_second (test y) (list_any test ys) e)) (contains_cases y ys x h)
  where
    go : (Contains ys x → test x ≡ false) → (y ≡ x) ⊎ Contains ys x → test x ≡ false
    go rest (inl s) = ap test (sym s) ∙ or_false_first (test y) (list_any test ys) e
    go rest (inr i) = rest i

-- ---- lists of which nothing is left

-- where all give nothing together, each gives nothing
pub none_of_each : {A B : Type 0} (f : A → List B) (xs : List A) (x : A) → Contains xs x → flat_map f xs ≡ [] → f x ≡ []
none_of_each f [] x h e = absurd (contains_nothing x h)
none_of_each {A} {B} f (y ∷ ys) x h e = go (λ i. none_of_each f ys x i (append_nil_second (f y) (flat_map f ys) e)) (contains_cases y ys x h)
  where
    go : (Contains ys x → f x ≡ []) → (y ≡ x) ⊎ Contains ys x → f x ≡ []
    go rest (inl s) = ap f (sym s) ∙ append_nil_first (f y) (flat_map f ys) e
    go rest (inr i) = rest i

-- ---- numbers

-- a number that is found among what a test chose passes the test
pub looked_up : {V : Type 0} (has : ℕ → Bool) (n : ℕ) (xs : List (ℕ × V)) → is_some (lookup (nat_eq n) (filter (λ (x : ℕ × V). has x.0) xs)) ≡ true → has n ≡ true
looked_up has n [] h = false_not_true h
looked_up {V} has n (x ∷ xs) h = go (looked_up has n xs) (has x.0) refl (nat_eq n x.0) refl h
  where
    go : (is_some (lookup (nat_eq n) (filter (λ (x : ℕ × V). has x.0) xs)) ≡ true → has n ≡ true) → (kept : Bool) → has x.0 ≡ kept → (same : Bool) → nat_eq n x.0 ≡ same →
        is_some (lookup (nat_eq n) (cond kept (x ∷ filter (λ (x : ℕ × V). has x.0) xs) (filter (λ (x : ℕ × V). has x.0) xs))) ≡ true → has n ≡ true
    go rest false f same e k = rest k
    go rest true f true e k = ap has (nat_eq_same n x.0 e) ∙ f
    go rest true f false e k = rest (ap is_some (sym (cond_false (nat_eq n x.0) (Some x.1) (lookup (nat_eq n) (filter (λ (x : ℕ × V). has x.0) xs)) e)) ∙ k)

pub found_chosen : {A : Type 0} (number : A → ℕ) (has : ℕ → Bool) (n : ℕ) (xs : List A) → is_some (find (λ (x : A). nat_eq n (number x)) (filter (λ (x : A). has (number x)) xs)) ≡ true → has n ≡ true
found_chosen number has n [] h = false_not_true h
found_chosen {A} number has n (x ∷ xs) h = go (found_chosen number has n xs) (has (number x)) refl (nat_eq n (number x)) refl h
  where
    go : (is_some (find (λ (x : A). nat_eq n (number x)) (filter (λ (x : A). has (number x)) xs)) ≡ true → has n ≡ true) → (kept : Bool) → has (number x) ≡ kept → (same : Bool) → nat_eq n (number x) ≡ same →
        is_some (find (λ (x : A). nat_eq n (number x)) (cond kept (x ∷ filter (λ (x : A). has (number x)) xs) (filter (λ (x : A). has (number x)) xs))) ≡ true → has n ≡ true
    go rest false f same e k = rest k
    go rest true f true e k = ap has (nat_eq_same n (number x) e) ∙ f
    go rest true f false e k = rest (ap is_some (sym (cond_false (nat_eq n (number x)) (Some x) (find (λ (x : A). nat_eq n (number x)) (filter (λ (x : A). has (number x)) xs)) e)) ∙ k)

-- what is said of each number in a list is found under it
pub said_of : {A S : Type 0} (number : A → ℕ) (value : ℕ → S) (n : ℕ) (xs : List A) → Contains (map number xs) n → lookup (nat_eq n) (map (λ (x : A). (number x, value (number x))) xs) ≡ Some (value n)
said_of number value n [] h = absurd (contains_nothing n h)
said_of {A} {S} number value n (x ∷ xs) h = go (said_of number value n xs) (nat_eq n (number x)) refl (contains_cases (number x) (map number xs) n h)
  where
    go : (Contains (map number xs) n → lookup (nat_eq n) (map (λ (x : A). (number x, value (number x))) xs) ≡ Some (value n)) → (same : Bool) → nat_eq n (number x) ≡ same → (number x ≡ n) ⊎ Contains (map number xs) n →
        cond same (Some (value (number x))) (lookup (nat_eq n) (map (λ (x : A). (number x, value (number x))) xs)) ≡ Some (value n)
    go rest true e at = ap (λ (k : ℕ). Some (value k)) (sym (nat_eq_same n (number x) e))
    go rest false e (inl s) = false_not_true (sym e ∙ ap (nat_eq n) s ∙ nat_eq_self n)
    go rest false e (inr i) = rest i

-- the first that passes keeps its number, if that is chosen
pub found_stays : {V : Type 0} (passes : ℕ × V → Bool) (has : ℕ → Bool) (n : ℕ) (xs : List (ℕ × V)) → has n ≡ true → option_map (λ (x : ℕ × V). x.0) (find passes xs) ≡ Some n →
    option_map (λ (x : ℕ × V). x.0) (find passes (filter (λ (x : ℕ × V). has x.0) xs)) ≡ Some n
found_stays passes has n [] h e = e
found_stays {V} passes has n (x ∷ xs) h e = go (found_stays passes has n xs h) (passes x) refl (has x.0) refl e
  where
    number : Option (ℕ × V) → Option ℕ
    number o = option_map (λ (x : ℕ × V). x.0) o

    go : (number (find passes xs) ≡ Some n → number (find passes (filter (λ (x : ℕ × V). has x.0) xs)) ≡ Some n) → (p : Bool) → passes x ≡ p → (kept : Bool) → has x.0 ≡ kept → number (cond p (Some x) (find passes xs)) ≡ Some n →
        number (find passes (cond kept (x ∷ filter (λ (x : ℕ × V). has x.0) xs) (filter (λ (x : ℕ × V). has x.0) xs))) ≡ Some n
    go rest true p true f k = ap number (cond_true (passes x) (Some x) (find passes (filter (λ (x : ℕ × V). has x.0) xs)) p) ∙ k
    go rest true p false f k = false_not_true (sym f ∙ ap has (some_same x.0 n k) ∙ h)
    go rest false p true f k = ap number (cond_false (passes x) (Some x) (find passes (filter (λ (x : ℕ × V). has x.0) xs)) p) ∙ rest k
    go rest false p false f k = rest k
