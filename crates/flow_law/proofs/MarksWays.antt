-- Whether a way leads from one slot to another: edges are allowed one after the other, and a way by one more
-- edge goes to where it begins and on from where it ends.
use Rattle.std.proofs.Common.{◌≡◌, ◌∙◌, ◌<◌, ◌≤◌, ◌⊎◌, ℕ, zero, suc, List, [], ◌∷◌, ◌++◌, length, refl, sym, ap, subst, inl, inr, arith}
use Rattle.std.proofs.lemmas.Bool.{cases_eq}
use Rattle.pt_base.specs.declared.slot.Slot.{Slot}
use Rattle.pt_base.specs.declared.slot.Edge.{Edge}
use Rattle.propagation.specs.Paths.{from_of, to_of, Leads}
use Rattle.propagation.proofs.SlotLemmas.{same_slot}

-- each edge has a number below this one
abbrev Below : ℕ → List ℕ → Type 0
Below m [] = Unit {0}
Below m (k ∷ path) = (k < m) × Below m path

slots_differ : (a b : Slot) → (a ≡ b) ⊎ (a ≡ b → ⊥)
slots_differ a b = go (cases_eq a.0 b.0)
  where
    go : (a.0 ≡ b.0) ⊎ (a.0 ≡ b.0 → ⊥) → (a ≡ b) ⊎ (a ≡ b → ⊥)
    go (inl e) = inl (same_slot a b e)
    go (inr ne) = inr (λ e. ne (ap (λ (s : Slot). s.0) e))

module _ (edges : List Edge) where
  joined : (path more : List ℕ) (a b c : Slot) → Leads edges path a b → Leads edges more b c → Leads edges (path ++ more) a c
  joined [] more a b c h i = subst (λ (x : Slot). Leads edges more x c) (sym h) i
  joined (k ∷ path) more a b c h i = (h.0, h.1, joined path more (to_of edges k) b c h.2 i)

  within : (path : List ℕ) (a b : Slot) → Leads edges path a b → Below (length edges) path
  within [] a b h = tt
  within (k ∷ path) a b h = (h.0, within path (to_of edges k) b h.2)

  -- a way by edges below the number
  abbrev IsBy : ℕ → Slot → Slot → List ℕ → Type 0
  IsBy m a b path = Below m path × Leads edges path a b

  -- to where the edge begins, and on from where it ends
  abbrev Through : ℕ → Slot → Slot → Type 0
  Through m a b = ((path : List ℕ) × IsBy m a (from_of edges m) path) × ((path : List ℕ) × IsBy m (to_of edges m) b path)

  -- a way by one more edge does without it, or goes through it
  cut : (m : ℕ) (path : List ℕ) (a b : Slot) → Below (suc m) path → Leads edges path a b → IsBy m a b path ⊎ Through m a b
  cut m [] a b h i = inl (tt, i)
  cut m (k ∷ path) a b h i = go (cases_eq k m) (cut m path (to_of edges k) b h.1 i.2)
    where
      go : (k ≡ m) ⊎ (k ≡ m → ⊥) → IsBy m (to_of edges k) b path ⊎ Through m (to_of edges k) b → IsBy m a b (k ∷ path) ⊎ Through m a b
      go (inl e) (inl p) =
          let begins : a ≡ from_of edges m = sym i.1 ∙ ap (from_of edges) e in
          let ends : Leads edges path (to_of edges m) b = subst (λ n. Leads edges path (to_of edges n) b) e p.1 in
          inr (([], (tt, begins)), (path, (p.0, ends)))
      go (inl e) (inr t) =
          let begins : a ≡ from_of edges m = sym i.1 ∙ ap (from_of edges) e in
          inr (([], (tt, begins)), t.1)
      go (inr ne) (inl p) =
          let few : k < suc m = h.0 in
          let less : k < m = omega (arith, few, ne) in
          inl ((less, p.0), (i.0, i.1, p.1))
      go (inr ne) (inr t) =
          let few : k < suc m = h.0 in
          let less : k < m = omega (arith, few, ne) in
          inr ((k ∷ t.0.0, ((less, t.0.1.0), (i.0, i.1, t.0.1.1))), t.1)

  -- there is a way, or none by edges below the number
  abbrev Decided : ℕ → Slot → Slot → Type 0
  Decided m a b = ((path : List ℕ) × Leads edges path a b) ⊎ ((path : List ℕ) → IsBy m a b path → ⊥)

  decided : (m : ℕ) → m ≤ length edges → (a b : Slot) → Decided m a b
  decided zero le a b = go (slots_differ a b)
    where
      go : (a ≡ b) ⊎ (a ≡ b → ⊥) → Decided zero a b
      go (inl e) = inl ([], e)
      go (inr ne) = inr none
        where
          none : (path : List ℕ) → IsBy zero a b path → ⊥
          none [] p = ne p.1
          none (k ∷ path) p = let lt : k < zero = p.0.0 in absurd (omega (arith, lt))
  decided (suc m) le a b = go (decided m (omega arith) a b) (decided m (omega arith) a (from_of edges m)) (decided m (omega arith) (to_of edges m) b)
    where
      go : Decided m a b → Decided m a (from_of edges m) → Decided m (to_of edges m) b → Decided (suc m) a b
      go (inl p) s t = inl p
      go (inr lacks) (inl p) (inl q) = inl (p.0 ++ m ∷ q.0, joined p.0 (m ∷ q.0) a (from_of edges m) b p.1 (omega arith, refl, q.1))
      go (inr lacks) (inl p) (inr none) = inr past
        where
          past : (path : List ℕ) → IsBy (suc m) a b path → ⊥
          past path is = one (cut m path a b is.0 is.1)
            where
              one : IsBy m a b path ⊎ Through m a b → ⊥
              one (inl p) = lacks path p
              one (inr t) = none t.1.0 t.1.1
      go (inr lacks) (inr none) t = inr past
        where
          past : (path : List ℕ) → IsBy (suc m) a b path → ⊥
          past path is = one (cut m path a b is.0 is.1)
            where
              one : IsBy m a b path ⊎ Through m a b → ⊥
              one (inl p) = lacks path p
              one (inr t) = none t.0.0 t.0.1

  -- there is a way, or there is none
  pub way_or_none : (a b : Slot) → ((path : List ℕ) × Leads edges path a b) ⊎ ((path : List ℕ) → Leads edges path a b → ⊥)
  way_or_none a b = go (decided (length edges) (omega arith) a b)
    where
      go : Decided (length edges) a b → ((path : List ℕ) × Leads edges path a b) ⊎ ((path : List ℕ) → Leads edges path a b → ⊥)
      go (inl p) = inl p
      go (inr none) = inr (λ path h. none path (within path a b h, h))

pub is_or_differs : (a b : Slot) → (a ≡ b) ⊎ (a ≡ b → ⊥)
is_or_differs = slots_differ
