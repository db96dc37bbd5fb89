-- Where ways lead to a slot from seeds, one of them has the fewest edges: ways of no edge are looked for first, then
-- those of one, and so on.
use Rattle.std.proofs.Common.{◌≡◌, ◌<◌, ◌≤◌, ◌⊎◌, ℕ, zero, suc, List, [], ◌∷◌, length, refl, sym, subst, inl, inr, arith}
use Rattle.std.specs.List.{Contains}
use Rattle.std.proofs.lemmas.Bool.{cases_eq, cases_lt}
use Rattle.pt_base.specs.declared.slot.Slot.{Slot}
use Rattle.pt_base.specs.declared.slot.Edge.{Edge}
use Rattle.pt_base.proofs.Members.{contains_cases, contains_first, contains_later, contains_nothing}
use Rattle.propagation.specs.Paths.{from_of, to_of, Leads, IsPriv, IsShortestPath}
use Rattle.flow_law.proofs.MarksWays.{is_or_differs}

-- ---- members

module _ (edges : List Edge) where
  -- ---- ways of so many edges

  abbrev WayOf : ℕ → Slot → Slot → Type 0
  WayOf n a b = (path : List ℕ) × Leads edges path a b × (length path ≡ n)

  -- an edge below the number leads from a to where a way of so many edges begins
  abbrev Onward : ℕ → ℕ → Slot → Slot → Type 0
  Onward m n a b = (k : ℕ) × (k < m) × (from_of edges k ≡ a) × WayOf n (to_of edges k) b

  onward : (n : ℕ) → ((a b : Slot) → WayOf n a b ⊎ (WayOf n a b → ⊥)) → (m : ℕ) (a b : Slot) → Onward m n a b ⊎ (Onward m n a b → ⊥)
  onward n ways zero a b = inr (λ o. let lt : o.0 < zero = o.1 in absurd (omega (arith, lt)))
  onward n ways (suc m) a b = go (onward n ways m a b) (is_or_differs (from_of edges m) a) (ways (to_of edges m) b)
    where
      go : Onward m n a b ⊎ (Onward m n a b → ⊥) → (from_of edges m ≡ a) ⊎ (from_of edges m ≡ a → ⊥) → WayOf n (to_of edges m) b ⊎ (WayOf n (to_of edges m) b → ⊥) → Onward (suc m) n a b ⊎ (Onward (suc m) n a b → ⊥)
      go (inl o) begins w = inl (o.0, (let lt : o.0 < m = o.1 in omega (arith, lt)), o.2, o.3)
      go (inr none) (inl e) (inl w) = inl (m, omega arith, e, w)
      go (inr none) (inl e) (inr lacks) = inr (λ o. one o (cases_eq o.0 m))
        where
          one : (o : Onward (suc m) n a b) → (o.0 ≡ m) ⊎ (o.0 ≡ m → ⊥) → ⊥
          one o (inl is) = lacks (subst (λ k. WayOf n (to_of edges k) b) is o.3)
          one o (inr ne) = none (o.0, (let lt : o.0 < suc m = o.1 in omega (arith, lt, ne)), o.2, o.3)
      go (inr none) (inr differs) w = inr (λ o. one o (cases_eq o.0 m))
        where
          one : (o : Onward (suc m) n a b) → (o.0 ≡ m) ⊎ (o.0 ≡ m → ⊥) → ⊥
          one o (inl is) = differs (subst (λ k. from_of edges k ≡ a) is o.2)
          one o (inr ne) = none (o.0, (let lt : o.0 < suc m = o.1 in omega (arith, lt, ne)), o.2, o.3)

  way_of : (n : ℕ) (a b : Slot) → WayOf n a b ⊎ (WayOf n a b → ⊥)
  way_of zero a b = go (is_or_differs a b)
    where
      none : (a ≡ b → ⊥) → (path : List ℕ) → Leads edges path a b → length path ≡ zero → ⊥
      none ne [] h size = ne h
      none ne (k ∷ path) h size = absurd (omega (arith, size))

      go : (a ≡ b) ⊎ (a ≡ b → ⊥) → WayOf zero a b ⊎ (WayOf zero a b → ⊥)
      go (inl e) = inl ([], e, refl)
      go (inr ne) = inr (λ w. none ne w.0 w.1 w.2)
  way_of (suc n) a b = go (onward n (way_of n) (length edges) a b)
    where
      past : (Onward (length edges) n a b → ⊥) → (path : List ℕ) → Leads edges path a b → length path ≡ suc n → ⊥
      past none [] h size = absurd (omega (arith, size))
      past none (k ∷ path) h size = none (k, h.0, h.1, (path, h.2, omega (arith, size)))

      go : Onward (length edges) n a b ⊎ (Onward (length edges) n a b → ⊥) → WayOf (suc n) a b ⊎ (WayOf (suc n) a b → ⊥)
      go (inl o) = inl (o.0 ∷ o.3.0, (o.1, o.2, o.3.1), (let size : length o.3.0 ≡ n = o.3.2 in omega (arith, size)))
      go (inr none) = inr (λ w. past none w.0 w.1 w.2)

  -- ---- from one of the seeds

  abbrev SomeWay : List Slot → ℕ → Slot → Type 0
  SomeWay seeds n s = (seed : Slot) × Contains seeds seed × WayOf n seed s

  some_way : (seeds : List Slot) (n : ℕ) (s : Slot) → SomeWay seeds n s ⊎ (SomeWay seeds n s → ⊥)
  some_way [] n s = inr (λ w. contains_nothing w.0 w.1)
  some_way (x ∷ xs) n s = go (way_of n x s) (some_way xs n s)
    where
      go : WayOf n x s ⊎ (WayOf n x s → ⊥) → SomeWay xs n s ⊎ (SomeWay xs n s → ⊥) → SomeWay (x ∷ xs) n s ⊎ (SomeWay (x ∷ xs) n s → ⊥)
      go (inl w) r = inl (x, contains_first x xs, w)
      go (inr lacks) (inl w) = inl (w.0, contains_later x xs w.0 w.1, w.2)
      go (inr lacks) (inr none) = inr (λ w. one w (contains_cases x xs w.0 w.1))
        where
          one : (w : SomeWay (x ∷ xs) n s) → (x ≡ w.0) ⊎ Contains xs w.0 → ⊥
          one w (inl e) = lacks (subst (λ y. WayOf n y s) (sym e) w.2)
          one w (inr c) = none (w.0, c, w.2)

  -- ---- the fewest edges

  module _ (seeds : List Slot) (s : Slot) where
    abbrev Fewest : ℕ → Type 0
    Fewest m = SomeWay seeds m s × ((l : ℕ) → SomeWay seeds l s → m ≤ l)

    -- there are fewest, or no way has fewer than so many
    fewest : (n : ℕ) → ((m : ℕ) × Fewest m) ⊎ ((l : ℕ) → l < n → SomeWay seeds l s → ⊥)
    fewest zero = inr (λ l lt w. absurd (omega (arith, lt)))
    fewest (suc n) = go (fewest n) (some_way seeds n s)
      where
        go : ((m : ℕ) × Fewest m) ⊎ ((l : ℕ) → l < n → SomeWay seeds l s → ⊥) → SomeWay seeds n s ⊎ (SomeWay seeds n s → ⊥) → ((m : ℕ) × Fewest m) ⊎ ((l : ℕ) → l < suc n → SomeWay seeds l s → ⊥)
        go (inl m) w = inl m
        go (inr none) (inl w) = inl (n, (w, λ l v. low l v (cases_lt l n)))
          where
            low : (l : ℕ) → SomeWay seeds l s → (l < n) ⊎ (n ≤ l) → n ≤ l
            low l v (inl lt) = absurd (none l lt v)
            low l v (inr le) = le
        go (inr none) (inr lacks) = inr (λ l lt v. one l lt v (cases_lt l n))
          where
            one : (l : ℕ) → l < suc n → SomeWay seeds l s → (l < n) ⊎ (n ≤ l) → ⊥
            one l lt v (inl less) = none l less v
            one l lt v (inr more) = let is : l ≡ n = omega (arith, lt, more) in lacks (subst (λ k. SomeWay seeds k s) is v)

    pub shortest : IsPriv seeds edges s → (path : List ℕ) × IsShortestPath seeds edges path s
    shortest p = go (fewest (suc (length p.1)))
      where
        go : ((m : ℕ) × Fewest m) ⊎ ((l : ℕ) → l < suc (length p.1) → SomeWay seeds l s → ⊥) → (path : List ℕ) × IsShortestPath seeds edges path s
        go (inl m) =
            let w : SomeWay seeds m.0 s = m.1.0 in
            let size : length w.2.0 ≡ m.0 = w.2.2 in
            (w.2.0, (w.0, w.1, w.2.1, λ seed path is leads. let le : m.0 ≤ length path = m.1.1 (length path) (seed, is, (path, leads, refl)) in omega (arith, size, le)))
        go (inr none) = absurd (none (length p.1) (omega arith) (p.0, p.2, (p.1, p.3, refl)))
