-- Functions in whose texts places stand, found by where their names begin.
use Rattle.std.proofs.Common.{◌≡◌, ◌<◌, ◌≤◌, ℕ, zero, suc, refl, subst, arith, Bool, true, false, List, [], ◌∷◌, Option, Some, None, length, get_or, leb, nat_cmp, nat_eq, Ordering, Less, Equal, Greater}
use Rattle.std.specs.Prelude.{slice_get}
use Rattle.std.specs.List.Sorted.{IsNonDecreasingBy, IsStrictlySortedBy}
use Rattle.std.specs.Ordering.{MatchOrdering, ordering_then}
use Rattle.std.proofs.lemmas.Bool.Decides.{nat_tests}
use Rattle.std.proofs.lemmas.Cmp.{ranked}
use Rattle.std.proofs.lemmas.Map.Keys.{Less-from_sorted}
use Rattle.pt_base.proofs.Booleans.{and_parts}
use Rattle.pt_base.proofs.Numbers.{nat_eq_same}
use Rattle.explaining.specs.contracts.homes.HomeOrd.TheImpl as home_ord
use Rattle.explaining.specs.contracts.homes.HomePartialEq.TheImpl as home_eq
use Rattle.explaining.specs.declared.homes.Home.{Home}
use Rattle.explaining.specs.Homes.{home_cmp, item_before, last_begun}

-- ---- the derived comparisons

pub sorted_is : (homes : List Home) → IsStrictlySortedBy home_ord.ghosts.cmp homes → IsStrictlySortedBy home_cmp homes
sorted_is homes h = h

pub home_same : (a b : Home) → home_eq.ghosts.eq a b ≡ true → a ≡ b
home_same a b h =
    let same = and_parts (nat_eq a.at b.at) (nat_eq a.number b.number) h in
    let at = nat_eq_same a.at b.at same.0 in
    let number = nat_eq_same a.number b.number same.1 in
    λ i. record { at = at i; number = number i }

-- ---- names ascend

less_le : (m n : ℕ) (o : Ordering) → ordering_then (nat_cmp m n) o ≡ Less → m ≤ n
less_le m n o h = go (nat_cmp m n) refl h
  where
    go : (c : Ordering) → nat_cmp m n ≡ c → ordering_then c o ≡ Less → m ≤ n
    go Less e h = let lt : m < n = subst (λ (p : Ordering). MatchOrdering p (m < n) (m ≡ n) (n < m)) e (ranked m n (nat_cmp m n) refl) in omega (arith, lt)
    go Equal e h = let same : m ≡ n = subst (λ (p : Ordering). MatchOrdering p (m < n) (m ≡ n) (n < m)) e (ranked m n (nat_cmp m n) refl) in omega (arith, same)
    go Greater e h = cc

pub names_ascend : (homes : List Home) → IsStrictlySortedBy home_cmp homes → IsNonDecreasingBy (λ (h : Home). h.at) homes
names_ascend homes up i j d le within = go (leb j i) refl
  where
    go : (b : Bool) → leb j i ≡ b → (get_or homes i d).at ≤ (get_or homes j d).at
    go true e = let same : i ≡ j = grind (arith, nat_tests) in subst (λ k. (get_or homes i d).at ≤ (get_or homes k d).at) same (omega arith)
    go false e =
        let lt : i < j = grind (arith, nat_tests) in
        less_le (get_or homes i d).at (get_or homes j d).at (nat_cmp (get_or homes i d).number (get_or homes j d).number) (Less-from_sorted home_cmp homes i j d up lt within)

-- ---- the last one

-- where the first so many begin at the place or before it, and all others behind it
last_at : (homes : List Home) (at i : ℕ) (d : Home) (best : Option Home) → i ≤ length homes → ((k : ℕ) → k < i → leb (get_or homes k d).at at ≡ true) →
    ((k : ℕ) → i ≤ k → k < length homes → leb (get_or homes k d).at at ≡ false) → (i ≡ 0 → last_begun homes at best ≡ best) × ((j : ℕ) → i ≡ suc j → last_begun homes at best ≡ slice_get homes j)
last_at [] at i d best le before after = (λ e. refl, λ j e. absurd (omega (arith, le, e)))
last_at (h ∷ homes) at zero d best le before after =
    (λ e. rw (after 0 (omega arith) (omega arith)) refl, λ j e. absurd (omega (arith, e)))
last_at (h ∷ homes) at (suc i) d best le before after =
    let rest = last_at homes at i d (Some h) (omega (arith, le)) (λ k lt. before (suc k) (omega (arith, lt))) (λ k low high. after (suc k) (omega (arith, low)) (omega (arith, high))) in
    (λ e. absurd (omega (arith, e)), λ j e. rw (before 0 (omega arith)) (go j e rest))
  where
    go : (j : ℕ) → suc i ≡ suc j → (i ≡ 0 → last_begun homes at (Some h) ≡ Some h) × ((j : ℕ) → i ≡ suc j → last_begun homes at (Some h) ≡ slice_get homes j) → last_begun homes at (Some h) ≡ slice_get (h ∷ homes) j
    go zero e rest = rest.0 (omega (arith, e))
    go (suc j) e rest = rest.1 j (omega (arith, e))

pub last_is : (homes : List Home) (at i : ℕ) → i ≤ length homes → ((k : ℕ) (d : Home) → k < i → leb (get_or homes k d).at at ≡ true) →
    ((k : ℕ) (d : Home) → i ≤ k → k < length homes → leb (get_or homes k d).at at ≡ false) → last_begun homes at None ≡ item_before homes i
last_is homes at i le before after = go i refl
  where
    d : Home
    d = record { at = 0; number = 0 }

    go : (j : ℕ) → i ≡ j → last_begun homes at None ≡ item_before homes j
    go zero e = (last_at homes at i d None le (λ k lt. before k d lt) (λ k low high. after k d low high)).0 e
    go (suc j) e = (last_at homes at i d None le (λ k lt. before k d lt) (λ k low high. after k d low high)).1 j e
