-- How many edges are ahead of an edge where the slots' edges stand side by side.
use Rattle.std.proofs.Common.{◌≡◌, ◌<◌, ◌≤◌, ◌+◌, ℕ, zero, suc, List, [], ◌∷◌, length, refl, sym, add-one, ap, ◌⊎◌, subst, arith, inl, inr}
use Rattle.std.proofs.lemmas.Bool.{cases_eq, cases_lt}
use Rattle.pt_base.specs.declared.slot.Edge.{Edge}
use Rattle.propagation.specs.Adjacent.{ahead}
use Rattle.propagation.specs.Paths.{from_of}

-- an edge from the slot is counted up to its number, and any other is not
pub ahead_here : (edges : List Edge) (s k : ℕ) → k < length edges → (from_of edges k).0 ≡ s → ahead edges s k ≡ ahead edges s (k + 1) + 1
ahead_here [] s k lt e = absurd (omega arith)
ahead_here (x ∷ []) s zero lt e = omega arith
ahead_here (x ∷ y ∷ edges) s zero lt e = omega arith
ahead_here (x ∷ edges) s (suc k) lt e = let i : k + 1 ≡ suc k = add-one k in let h : ahead edges s k ≡ ahead edges s (suc k) + 1 = subst (λ n. ahead edges s k ≡ ahead edges s n + 1) i (ahead_here edges s k (omega arith) e) in let r : ahead (x ∷ edges) s (suc k) ≡ ahead (x ∷ edges) s (suc (suc k)) + 1 = omega (arith, h) in subst (λ n. ahead (x ∷ edges) s (suc k) ≡ ahead (x ∷ edges) s n + 1) (sym (add-one (suc k))) r

pub ahead_other : (edges : List Edge) (s k : ℕ) → k < length edges → ((from_of edges k).0 ≡ s → ⊥) → ahead edges s k ≡ ahead edges s (k + 1)
ahead_other [] s k lt ne = absurd (omega arith)
ahead_other (x ∷ edges) s zero lt ne = grind arith
ahead_other (x ∷ edges) s (suc k) lt ne = let h : ahead edges s k ≡ ahead edges s (suc k) = subst (λ n. ahead edges s k ≡ ahead edges s n) (add-one k) (ahead_other edges s k (omega arith) ne) in let r : ahead (x ∷ edges) s (suc k) ≡ ahead (x ∷ edges) s (suc (suc k)) = omega (arith, h) in subst (λ n. ahead (x ∷ edges) s (suc k) ≡ ahead (x ∷ edges) s n) (sym (add-one (suc k))) r

pub ahead_most : (edges : List Edge) (s k : ℕ) → ahead edges s k ≤ length edges
ahead_most [] s k = omega arith
ahead_most (x ∷ edges) s zero = omega (arith, ahead_most edges s zero)
ahead_most (x ∷ edges) s (suc k) = omega (arith, ahead_most edges s k)

pub ahead_falls : (edges : List Edge) (s j k : ℕ) → j ≤ k → ahead edges s k ≤ ahead edges s j
ahead_falls [] s j k le = omega arith
ahead_falls (x ∷ edges) s zero zero le = omega arith
ahead_falls (x ∷ edges) s zero (suc k) le = omega (arith, ahead_falls edges s zero k (omega arith))
ahead_falls (x ∷ edges) s (suc j) zero le = absurd (omega arith)
ahead_falls (x ∷ edges) s (suc j) (suc k) le = omega (arith, ahead_falls edges s j k (omega arith))

-- all edges from a slot are ahead of those from the next
pub ahead_next : (edges : List Edge) (s : ℕ) → ahead edges (s + 1) (length edges) ≡ ahead edges s 0
ahead_next [] s = refl
ahead_next (x ∷ edges) s = omega (arith, ahead_next edges s)

pub ahead_slot : (edges : List Edge) (s t j k : ℕ) → s < t → ahead edges s j ≤ ahead edges t k
ahead_slot [] s t j k lt = omega arith
ahead_slot (x ∷ edges) s t zero zero lt = omega (arith, ahead_slot edges s t zero zero lt)
ahead_slot (x ∷ edges) s t zero (suc k) lt = omega (arith, ahead_slot edges s t zero k lt)
ahead_slot (x ∷ edges) s t (suc j) zero lt = omega (arith, ahead_slot edges s t j zero lt)
ahead_slot (x ∷ edges) s t (suc j) (suc k) lt = omega (arith, ahead_slot edges s t j k lt)

pub ahead_none : (edges : List Edge) → ahead edges 0 (length edges) ≡ 0
ahead_none [] = refl
ahead_none (x ∷ edges) = omega (arith, ahead_none edges)

-- the place of an edge's link
abbrev pub place_of_edge : List Edge → ℕ → ℕ
place_of_edge edges k = ahead edges (from_of edges k).0 (k + 1)

pub place_within : (edges : List Edge) (k : ℕ) → k < length edges → place_of_edge edges k < length edges
place_within edges k lt = omega (arith, ahead_here edges (from_of edges k).0 k lt refl, ahead_most edges (from_of edges k).0 k)

-- an earlier edge has another place
other_place : (edges : List Edge) (s t j k : ℕ) → j < k → k < length edges → (from_of edges j).0 ≡ s → (from_of edges k).0 ≡ t → ahead edges t (k + 1) ≡ ahead edges s (j + 1) → ⊥
other_place edges s t j k before lt a b same = go (cases_eq s t) (ahead_here edges s j (omega arith) a) (ahead_here edges t k lt b)
  where
    go : (s ≡ t) ⊎ (s ≡ t → ⊥) → ahead edges s j ≡ ahead edges s (j + 1) + 1 → ahead edges t k ≡ ahead edges t (k + 1) + 1 → ⊥
    go (inl e) h i = let f : ahead edges t k ≤ ahead edges t (j + 1) = ahead_falls edges t (j + 1) k (omega arith) in
        let g : ahead edges t (j + 1) ≡ ahead edges s (j + 1) = ap (λ u. ahead edges u (j + 1)) (sym e) in omega arith
    go (inr ne) h i = apart (cases_lt s t)
      where
        apart : (s < t) ⊎ (t ≤ s) → ⊥
        apart (inl less) = omega (arith, ahead_slot edges s t j (k + 1) less)
        apart (inr more) = omega (arith, ahead_slot edges t s k (j + 1) (omega arith))

pub place_other : (edges : List Edge) (j k : ℕ) → j < k → k < length edges → place_of_edge edges k ≡ place_of_edge edges j → ⊥
place_other edges j k before lt same = other_place edges (from_of edges j).0 (from_of edges k).0 j k before lt refl refl same

-- each place among those of a slot is that of an edge from it
pub place_found : (edges : List Edge) (s n at : ℕ) → n ≤ length edges → ahead edges s n ≤ at → at < ahead edges s 0 → (k : ℕ) × (k < n) × ((from_of edges k).0 ≡ s) × (ahead edges s (k + 1) ≡ at)
place_found edges s zero at le low high = absurd (omega arith)
place_found edges s (suc n) at le low high = found (cases_eq (from_of edges n).0 s) (cases_lt at (ahead edges s n)) (λ ge. place_found edges s n at (omega arith) ge high)
  where
    found : ((from_of edges n).0 ≡ s) ⊎ ((from_of edges n).0 ≡ s → ⊥) → (at < ahead edges s n) ⊎ (ahead edges s n ≤ at) → (ahead edges s n ≤ at → (k : ℕ) × (k < n) × ((from_of edges k).0 ≡ s) × (ahead edges s (k + 1) ≡ at)) → (k : ℕ) × (k < suc n) × ((from_of edges k).0 ≡ s) × (ahead edges s (k + 1) ≡ at)
    found h (inr ge) earlier = let r = earlier ge in (r.0, (let lt : r.0 < n = r.1 in omega arith), r.2, r.3)
    found (inl e) (inl below) earlier = (n, omega arith, e, (let h : ahead edges s n ≡ ahead edges s (n + 1) + 1 = ahead_here edges s n (omega arith) e in let low' : ahead edges s (n + 1) ≤ at = rw add-one low in omega arith))
    found (inr ne) (inl below) earlier = absurd (let h : ahead edges s n ≡ ahead edges s (n + 1) = ahead_other edges s n (omega arith) ne in let low' : ahead edges s (n + 1) ≤ at = rw add-one low in omega arith)
