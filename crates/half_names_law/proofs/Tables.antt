-- Tables of names in which no name stands twice.
use Rattle.std.proofs.Common.{◌≡◌, ◌<◌, ◌+◌, ◌++◌, ◌∙◌, sym, ap, refl, ℕ, zero, suc, Bool, true, false, List, [], ◌∷◌, length, map, arith, cond, nat_lt, not, Option, Some, None, if◌then◌else◌, is_none}
use Rattle.std.specs.Prelude.{◌&&◌, ◌||◌, slice_get, option_map}
use Rattle.std.specs.List.{prefix_len, list_any, range_with_len}
use Rattle.std.specs.Str.{bytes_eq}
use Rattle.std.proofs.lemmas.Bool.Decides.{nat_tests}
use Rattle.pt_base.proofs.Lists.{bytes_eq_same, bytes_eq_self}
use Rattle.typed_tree.specs.WellFormed.{are_distinct}
use Rattle.check_declarations.specs.NameTables.{Named, number_of, is_new, with_name}

module _ {X : Type 0} where
  -- the place of a name
  abbrev pub sought : Named X → List ℕ → Option ℕ
  sought [] n = None
  sought (e ∷ t) n = if bytes_eq n e.0 then Some 0 else option_map suc (sought t n)

  abbrev rest_of : Named X → List ℕ → ℕ
  rest_of t n = prefix_len (λ e. not (bytes_eq n e.0)) t

  shifted : (t : Named X) (r : ℕ) → cond (nat_lt (1 + r) (suc (length t))) (Some (1 + r)) None ≡ option_map suc (cond (nat_lt r (length t)) (Some r) None)
  shifted t r = go (nat_lt r (length t)) (nat_lt (1 + r) (suc (length t))) (grind (arith, nat_tests))
    where
      go : (a b : Bool) → b ≡ a → cond b (Some (1 + r)) None ≡ option_map suc (cond a (Some r) None)
      go true true h = let same : 1 + r ≡ suc r = omega arith in ap Some same
      go false false h = refl
      go true false h = cc
      go false true h = cc

  pub found : (t : Named X) (n : List ℕ) → number_of t n ≡ sought t n
  found [] n = refl
  found (e ∷ t) n = go (bytes_eq n e.0) refl (found t n)
    where
      at_first : (b : Bool) → b ≡ true → cond {A = Option ℕ} b (Some 0) None ≡ Some 0
      at_first true h = refl
      at_first false h = cc

      go : (b : Bool) → bytes_eq n e.0 ≡ b → number_of t n ≡ sought t n → cond (nat_lt (cond (not b) (1 + rest_of t n) 0) (suc (length t))) (Some (cond (not b) (1 + rest_of t n) 0)) None ≡ (if b then Some 0 else option_map suc (sought t n))
      go true is again = at_first (nat_lt 0 (suc (length t))) (grind (arith, nat_tests))
      go false is again = shifted t (rest_of t n) ∙ ap (option_map suc) again

  -- an entry is found under its name, where no earlier one has it
  pub sought_first : (t : Named X) (k : ℕ) (e : List ℕ × X) → slice_get t k ≡ Some e → ((j : ℕ) (x : List ℕ × X) → j < k → slice_get t j ≡ Some x → e.0 ≡ x.0 → ⊥) → sought t e.0 ≡ Some k
  sought_first [] k e is others = cc
  sought_first (x ∷ t) zero e is others = go (bytes_eq e.0 x.0) (ap (λ z. bytes_eq e.0 z.0) (same is) ∙ bytes_eq_self e.0)
    where
      same : Some x ≡ Some e → x ≡ e
      same h = cc

      go : (b : Bool) → b ≡ true → (if b then Some 0 else option_map suc (sought t e.0)) ≡ Some 0
      go true h = refl
      go false h = cc
  sought_first (x ∷ t) (suc k) e is others = go (bytes_eq e.0 x.0) refl (sought_first t k e is (λ j y low there. others (suc j) y (omega (arith, low)) there))
    where
      go : (b : Bool) → bytes_eq e.0 x.0 ≡ b → sought t e.0 ≡ Some k → (if b then Some 0 else option_map suc (sought t e.0)) ≡ Some (suc k)
      go true h again = absurd (others 0 x (omega arith) refl (bytes_eq_same e.0 x.0 h))
      go false h again = ap (option_map suc) again

  -- no entry has the name
  pub sought_none : (t : Named X) (n : List ℕ) → ((j : ℕ) (x : List ℕ × X) → slice_get t j ≡ Some x → n ≡ x.0 → ⊥) → sought t n ≡ None
  sought_none [] n others = refl
  sought_none (x ∷ t) n others = go (bytes_eq n x.0) refl (sought_none t n (λ j y there. others (suc j) y there))
    where
      go : (b : Bool) → bytes_eq n x.0 ≡ b → sought t n ≡ None → (if b then Some 0 else option_map suc (sought t n)) ≡ None
      go true h again = absurd (others 0 x refl (bytes_eq_same n x.0 h))
      go false h again = ap (option_map suc) again

  pub is_new_where : (t : Named X) (n : List ℕ) → ((j : ℕ) (x : List ℕ × X) → slice_get t j ≡ Some x → n ≡ x.0 → ⊥) → is_new t n ≡ true
  is_new_where t n others = ap is_none (found t n ∙ sought_none t n others)

  pub with_new : (t : Named X) (n : List ℕ) (x : X) → is_new t n ≡ true → with_name t n x ≡ t ++ (n, x) ∷ []
  with_new t n x h = ap (λ b. if b then t ++ (n, x) ∷ [] else t) h

  pub not_new : (t : Named X) (k : ℕ) (n : List ℕ) → number_of t n ≡ Some k → is_new t n ≡ false
  not_new t k n h = ap is_none h

-- ---- lists by number

-- what is made of each, by its number from this one on
abbrev pub listed : {A B : Type 0} → (ℕ → A → B) → ℕ → List A → List B
listed g k [] = []
listed g k (x ∷ xs) = g k x ∷ listed g (suc k) xs

pub listed_more : {A B : Type 0} (g : ℕ → A → B) (k n : ℕ) (xs ys : List A) → n ≡ k + length xs → listed g k (xs ++ ys) ≡ listed g k xs ++ listed g n ys
listed_more g k n [] ys h = let same : k ≡ n = omega (arith, h) in ap (λ m. listed g m ys) same
listed_more g k n (x ∷ xs) ys h = ap (λ l. g k x ∷ l) (listed_more g (suc k) n xs ys (omega (arith, h)))

pub listed_length : {A B : Type 0} (g : ℕ → A → B) (k : ℕ) (xs : List A) → length (listed g k xs) ≡ length xs
listed_length g k [] = refl
listed_length g k (x ∷ xs) = ap suc (listed_length g (suc k) xs)

pub listed_at : {A B : Type 0} (g : ℕ → A → B) (k j n : ℕ) (xs : List A) → n ≡ k + j → slice_get (listed g k xs) j ≡ option_map (g n) (slice_get xs j)
listed_at g k j n [] h = refl
listed_at g k zero n (x ∷ xs) h = let same : k ≡ n = omega (arith, h) in ap (λ m. Some (g m x)) same
listed_at g k (suc j) n (x ∷ xs) h = listed_at g (suc k) j n xs (omega (arith, h))

-- what stands at a place of such a list
pub listed_back : {A B : Type 0} (g : ℕ → A → B) (k j : ℕ) (xs : List A) (y : B) → slice_get (listed g k xs) j ≡ Some y → (x : A) × (slice_get xs j ≡ Some x) × (y ≡ g (k + j) x)
listed_back g k j [] y h = cc
listed_back g k zero (x ∷ xs) y h = let same : k ≡ k + 0 = omega arith in (x, refl, back h ∙ ap (λ m. g m x) same)
  where
    back : Some (g k x) ≡ Some y → y ≡ g k x
    back e = cc
listed_back g k (suc j) (x ∷ xs) y h = let again = listed_back g (suc k) j xs y h in let same : suc k + j ≡ k + suc j = omega arith in (again.0, again.1, again.2 ∙ ap (λ m. g m again.0) same)

-- ---- equal parts make equal wholes

pub same3 : {A B C R : Type 0} (k : A → B → C → R) {a a' : A} {b b' : B} {c c' : C} → a ≡ a' → b ≡ b' → c ≡ c' → k a b c ≡ k a' b' c'
same3 k p q r = λ i. k (p i) (q i) (r i)

-- ---- names that differ

any_there : (name : List ℕ) (names : List (List ℕ)) (k : ℕ) → slice_get names k ≡ Some name → list_any (bytes_eq name) names ≡ true
any_there name [] k h = cc
any_there name (x ∷ xs) zero h = go (bytes_eq name x) (list_any (bytes_eq name) xs) (ap (bytes_eq name) (same h) ∙ bytes_eq_self name)
  where
    same : Some x ≡ Some name → x ≡ name
    same e = cc

    go : (a b : Bool) → a ≡ true → (a || b) ≡ true
    go a b e = ap (λ z. z || b) e
any_there name (x ∷ xs) (suc k) h = go (bytes_eq name x) (list_any (bytes_eq name) xs) (any_there name xs k h)
  where
    go : (a b : Bool) → b ≡ true → (a || b) ≡ true
    go true b e = refl
    go false b e = e

distinct_parts : (name : List ℕ) (names : List (List ℕ)) → are_distinct (name ∷ names) ≡ true → (list_any (bytes_eq name) names ≡ false) × (are_distinct names ≡ true)
distinct_parts name names h = go (list_any (bytes_eq name) names) (are_distinct names) h
  where
    go : (a b : Bool) → (not a && b) ≡ true → (a ≡ false) × (b ≡ true)
    go true b e = cc
    go false b e = (refl, e)

-- a name stands at one place alone
pub one_place : (names : List (List ℕ)) (j k : ℕ) (x : List ℕ) → are_distinct names ≡ true → slice_get names j ≡ Some x → slice_get names k ≡ Some x → j ≡ k
one_place [] j k x h p q = cc
one_place (y ∷ ys) zero zero x h p q = refl
one_place (y ∷ ys) zero (suc k) x h p q =
    let parts = distinct_parts y ys h in
    let same : y ≡ x = first p in
    let there = any_there y ys k (q ∙ ap Some (sym same)) in cc
  where
    first : Some y ≡ Some x → y ≡ x
    first e = cc
one_place (y ∷ ys) (suc j) zero x h p q =
    let parts = distinct_parts y ys h in
    let same : y ≡ x = first q in
    let there = any_there y ys j (p ∙ ap Some (sym same)) in cc
  where
    first : Some y ≡ Some x → y ≡ x
    first e = cc
one_place (y ∷ ys) (suc j) (suc k) x h p q = ap suc (one_place ys j k x (distinct_parts y ys h).1 p q)

pub ranged_at : {A : Type 0} (name : ℕ → A) (first count j : ℕ) → j < count → slice_get (map name (range_with_len first count)) j ≡ Some (name (first + j))
ranged_at name first zero j h = absurd (omega (arith, h))
ranged_at name first (suc count) zero h = let same : first ≡ first + 0 = omega arith in ap (λ k. Some (name k)) same
ranged_at name first (suc count) (suc j) h = let same : first + 1 + j ≡ first + suc j = omega arith in ranged_at name (first + 1) count j (omega (arith, h)) ∙ ap (λ k. Some (name k)) same

-- a name is that of one number alone, among so many
abbrev pub Differ : (ℕ → List ℕ) → ℕ → Type 0
Differ name count = (j k : ℕ) → j < count → k < count → name j ≡ name k → j ≡ k

pub differ_from : (name : ℕ → List ℕ) (count : ℕ) → are_distinct (map name (range_with_len 0 count)) ≡ true → Differ name count
differ_from name count h j k low high same =
    one_place (map name (range_with_len 0 count)) j k (name j) h (ranged_at name 0 count j low ∙ ap (λ n. Some (name n)) (behind_none j))
    (ranged_at name 0 count k high ∙ ap (λ n. Some (name n)) (behind_none k) ∙ ap Some (sym same))
  where
    behind_none : (n : ℕ) → 0 + n ≡ n
    behind_none n = omega arith
