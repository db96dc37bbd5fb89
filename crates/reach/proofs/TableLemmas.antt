-- Sets of numbers that are kept as a truth for each number, and their lists.
use Rattle.std.proofs.Common.{◌≡◌, ◌∙◌, ◌≤◌, ◌<◌, ◌↔◌, ℕ, zero, suc, ◌+◌, refl, ap, sym, subst, arith, ◌⊎◌, inl, inr, Bool, true, false, List, [], ◌∷◌, ◌++◌, length, map, get_or, get_or-set_same}
use Rattle.std.specs.List.{All, AllPairs, Contains}
use Rattle.std.proofs.Math.ListN.{set, length-set, replicate}
use Rattle.std.proofs.lemmas.List.Elements.{All-nil, All-cons, All-map, All-weaker}
use Rattle.std.proofs.lemmas.List.Kept.{AllPairs-cons}
use Rattle.pt_base.proofs.Members.{contains_cases, contains_first, contains_later, contains_nothing}
use Rattle.reach.specs.Sorted.{Lists}
use Rattle.reach.specs.Tables.{places_true, set_all}
use Rattle.reach.proofs.ListLemmas.{contains_map, from_map}

-- ---- the places of what is true

places_from : (k : ℕ) (bs : List Bool) → All (λ n. k ≤ n) (places_true k bs)
places_from k [] = All-nil (λ n. k ≤ n)
places_from k (true ∷ bs) = All-cons (λ n. k ≤ n) k (places_true (suc k) bs) (omega arith) (All-weaker (λ n. suc k ≤ n) (λ n. k ≤ n) (λ n h. omega arith) (places_true (suc k) bs) (places_from (suc k) bs))
places_from k (false ∷ bs) = All-weaker (λ n. suc k ≤ n) (λ n. k ≤ n) (λ n h. omega arith) (places_true (suc k) bs) (places_from (suc k) bs)

places_ascend : {X : Type 0} (make : ℕ → X) (number : X → ℕ) → ((n : ℕ) → number (make n) ≡ n) → (k : ℕ) (bs : List Bool) → AllPairs (λ a b. number a < number b) (map make (places_true k bs))
places_ascend make number there k [] = λ i j d lt below. absurd (omega arith)
places_ascend make number there k (true ∷ bs) =
    AllPairs-cons (λ a b. number a < number b) (make k) (map make (places_true (suc k) bs))
    (All-map (λ b. number (make k) < number b) make (places_true (suc k) bs) (All-weaker (λ n. suc k ≤ n) (λ n. number (make k) < number (make n)) (λ n h. let a = there k in let b = there n in omega (arith, a, b)) (places_true (suc k) bs) (places_from (suc k) bs)))
    (places_ascend make number there (suc k) bs)
places_ascend make number there k (false ∷ bs) = places_ascend make number there (suc k) bs

listed : (k : ℕ) (bs : List Bool) (j : ℕ) → get_or bs j false ≡ true → Contains (places_true k bs) (k + j)
listed k [] j h = cc
listed k (true ∷ bs) zero h = let e : k + 0 ≡ k = omega arith in subst (λ n. Contains (k ∷ places_true (suc k) bs) n) (sym e) (contains_first k (places_true (suc k) bs))
listed k (false ∷ bs) zero h = cc
listed k (true ∷ bs) (suc j) h = let e : suc k + j ≡ k + suc j = omega arith in contains_later k (places_true (suc k) bs) (k + suc j) (subst (λ n. Contains (places_true (suc k) bs) n) e (listed (suc k) bs j h))
listed k (false ∷ bs) (suc j) h = let e : suc k + j ≡ k + suc j = omega arith in subst (λ n. Contains (places_true (suc k) bs) n) e (listed (suc k) bs j h)

abbrev IsPlace : ℕ → List Bool → ℕ → Type 0
IsPlace k bs n = (j : ℕ) × (n ≡ k + j) × (get_or bs j false ≡ true)

place_later : (k : ℕ) (b : Bool) (bs : List Bool) (n : ℕ) → IsPlace (suc k) bs n → IsPlace k (b ∷ bs) n
place_later k b bs n h = (suc h.0, let e : n ≡ suc k + h.0 = h.1 in omega arith, h.2)

from_listed : (k : ℕ) (bs : List Bool) (n : ℕ) → Contains (places_true k bs) n → IsPlace k bs n
from_listed k [] n h = absurd (contains_nothing n h)
from_listed k (true ∷ bs) n h = go (λ i. from_listed (suc k) bs n i) (contains_cases k (places_true (suc k) bs) n h)
  where
    go : (Contains (places_true (suc k) bs) n → IsPlace (suc k) bs n) → (k ≡ n) ⊎ Contains (places_true (suc k) bs) n → IsPlace k (true ∷ bs) n
    go rest (inl e) = (0, omega arith, refl)
    go rest (inr i) = place_later k true bs n (rest i)
from_listed k (false ∷ bs) n h = place_later k false bs n (from_listed (suc k) bs n h)

-- the list of a table is that of the set for which the table tells
pub table_lists : {X : Type 0} (make : ℕ → X) (number : X → ℕ) → ((n : ℕ) → number (make n) ≡ n) → ((x : X) → make (number x) ≡ x) → (Has : X → Type 0) (table : List Bool) →
    ((x : X) → (get_or table (number x) false ≡ true) ↔ Has x) → Lists number Has (map make (places_true 0 table))
table_lists {X} make number there back Has table same = record {
  ascending = places_ascend make number there 0 table;
  same = λ x. (inside x, outside x);
}
  where
    inside : (x : X) → Contains (map make (places_true 0 table)) x → Has x
    inside x h =
        let m = from_map make (places_true 0 table) x h in
        let p = from_listed 0 table m.0 m.1 in
        let e : m.0 ≡ 0 + p.0 = p.1 in
        let n : number x ≡ p.0 = ap number (sym m.2) ∙ there m.0 ∙ (omega arith) in
        (same x).0 (ap (λ i. get_or table i false) n ∙ p.2)

    outside : (x : X) → Has x → Contains (map make (places_true 0 table)) x
    outside x h =
        let l : Contains (places_true 0 table) (0 + number x) = listed 0 table (number x) ((same x).1 h) in
        let e : 0 + number x ≡ number x = omega arith in
        subst (λ (y : X). Contains (map make (places_true 0 table)) y) (back x) (contains_map make (places_true 0 table) (number x) (subst (λ n. Contains (places_true 0 table) n) e l))

-- ---- adding to a table

set_cases : (table : List Bool) (k j : ℕ) → get_or (set table k true) j false ≡ true → (get_or table j false ≡ true) ⊎ ((j < length table) × (k ≡ j))
set_cases [] k j h = inl h
set_cases (b ∷ bs) zero zero h = inr (omega arith, refl)
set_cases (b ∷ bs) zero (suc j) h = inl h
set_cases (b ∷ bs) (suc k) zero h = inl h
set_cases (b ∷ bs) (suc k) (suc j) h = go (set_cases bs k j h)
  where
    go : (get_or bs j false ≡ true) ⊎ ((j < length bs) × (k ≡ j)) → (get_or bs j false ≡ true) ⊎ ((suc j < suc (length bs)) × (suc k ≡ suc j))
    go (inl e) = inl e
    go (inr i) = inr (let lt : j < length bs = i.0 in omega arith, ap suc i.1)

set_keeps : (table : List Bool) (k j : ℕ) → get_or table j false ≡ true → get_or (set table k true) j false ≡ true
set_keeps [] k j h = h
set_keeps (b ∷ bs) zero zero h = refl
set_keeps (b ∷ bs) zero (suc j) h = h
set_keeps (b ∷ bs) (suc k) zero h = h
set_keeps (b ∷ bs) (suc k) (suc j) h = set_keeps bs k j h

pub set_all_keeps : (table : List Bool) (ks : List ℕ) (j : ℕ) → get_or table j false ≡ true → get_or (set_all table ks) j false ≡ true
set_all_keeps table [] j h = h
set_all_keeps table (k ∷ ks) j h = set_all_keeps (set table k true) ks j (set_keeps table k j h)

pub set_all_has : (table : List Bool) (ks : List ℕ) (j : ℕ) → j < length table → Contains ks j → get_or (set_all table ks) j false ≡ true
set_all_has table [] j lt h = absurd (contains_nothing j h)
set_all_has table (k ∷ ks) j lt h = go (λ i. set_all_has (set table k true) ks j (let s = length-set table k true in omega (arith, s)) i) (contains_cases k ks j h)
  where
    go : (Contains ks j → get_or (set_all (set table k true) ks) j false ≡ true) → (k ≡ j) ⊎ Contains ks j → get_or (set_all (set table k true) ks) j false ≡ true
    go rest (inl e) = set_all_keeps (set table k true) ks j (subst (λ i. get_or (set table i true) j false ≡ true) (sym e) (get_or-set_same table j true false lt))
    go rest (inr i) = rest i

pub set_all_from : (table : List Bool) (ks : List ℕ) (j : ℕ) → get_or (set_all table ks) j false ≡ true → (get_or table j false ≡ true) ⊎ ((j < length table) × Contains ks j)
set_all_from table [] j h = inl h
set_all_from table (k ∷ ks) j h = go (set_all_from (set table k true) ks j h)
  where
    one : (get_or table j false ≡ true) ⊎ ((j < length table) × (k ≡ j)) → (get_or table j false ≡ true) ⊎ ((j < length table) × Contains (k ∷ ks) j)
    one (inl e) = inl e
    one (inr i) = inr (i.0, subst (λ n. Contains (k ∷ ks) n) i.1 (contains_first k ks))

    go : (get_or (set table k true) j false ≡ true) ⊎ ((j < length (set table k true)) × Contains ks j) → (get_or table j false ≡ true) ⊎ ((j < length table) × Contains (k ∷ ks) j)
    go (inl e) = one (set_cases table k j e)
    go (inr i) = inr (let s = length-set table k true in let lt : j < length (set table k true) = i.0 in omega (arith, s), contains_later k ks j i.1)

pub none_true : (n j : ℕ) → get_or (replicate n false) j false ≡ true → ⊥
none_true zero j h = cc
none_true (suc n) zero h = cc
none_true (suc n) (suc j) h = none_true n j h

-- adding one list behind another
pub set_all_append : (table : List Bool) (xs ys : List ℕ) → set_all (set_all table xs) ys ≡ set_all table (xs ++ ys)
set_all_append table [] ys = refl
set_all_append table (x ∷ xs) ys = set_all_append (set table x true) xs ys
