-- Marks, slot by slot: of each one a shortest way from a seed, if one leads there.
use Rattle.std.proofs.Common.{◌≡◌, ◌∙◌, ◌<◌, ◌≤◌, ◌⊎◌, ℕ, zero, suc, List, [], ◌∷◌, ◌++◌, length, get_or, Option, Some, None, refl, sym, subst, inl, inr, arith}
use Rattle.std.specs.Prelude.{MatchOption}
use Rattle.std.specs.List.{Contains}
use Rattle.std.proofs.lemmas.Bool.{cases_lt}
use Rattle.std.proofs.lemmas.List.{get_or_append_left, get_or_at, length-append}
use Rattle.pt_base.specs.declared.slot.Slot.{Slot}
use Rattle.pt_base.specs.declared.slot.Edge.{Edge}
use Rattle.pt_base.proofs.Members.{contains_cases, contains_first, contains_later, contains_nothing}
use Rattle.propagation.specs.Paths.{Leads, IsPriv, IsShortestPath}
use Rattle.propagation.specs.Marks.{AreMarks, Shown, path_shown}
use Rattle.propagation.proofs.SlotLemmas.{same_slot}
use Rattle.flow_law.specs.MarksLaws.{ThereAreMarks}
use Rattle.flow_law.proofs.MarksWays.{way_or_none}
use Rattle.flow_law.proofs.MarksShortestWays.{shortest}

module _ (edges : List Edge) where
  -- a way leads there from one of the seeds, or from none
  pub priv_or_not : (seeds : List Slot) (s : Slot) → IsPriv seeds edges s ⊎ (IsPriv seeds edges s → ⊥)
  priv_or_not [] s = inr (λ p. contains_nothing p.0 p.2)
  priv_or_not (x ∷ xs) s = go (way_or_none edges x s) (priv_or_not xs s)
    where
      go : ((path : List ℕ) × Leads edges path x s) ⊎ ((path : List ℕ) → Leads edges path x s → ⊥) → IsPriv xs edges s ⊎ (IsPriv xs edges s → ⊥) → IsPriv (x ∷ xs) edges s ⊎ (IsPriv (x ∷ xs) edges s → ⊥)
      go (inl w) r = inl (x, w.0, contains_first x xs, w.1)
      go (inr lacks) (inl p) = inl (p.0, p.1, contains_later x xs p.0 p.2, p.3)
      go (inr lacks) (inr none) = inr (λ p. one p (contains_cases x xs p.0 p.2))
        where
          one : (p : IsPriv (x ∷ xs) edges s) → (x ≡ p.0) ⊎ Contains xs p.0 → ⊥
          one p (inl e) = lacks p.1 (subst (λ (y : Slot). Leads edges p.1 y s) (sym e) p.3)
          one p (inr c) = none (p.0, p.1, c, p.3)

  module _ (seeds : List Slot) where
    -- what is shown of a slot
    abbrev IsShown : Slot → Option (List ℕ) → Type 0
    IsShown s o = MatchOption o (¬ IsPriv seeds edges s) (λ path. IsShortestPath seeds edges path s)

    shown : (s : Slot) → (o : Option (List ℕ)) × IsShown s o
    shown s = go (priv_or_not seeds s)
      where
        go : IsPriv seeds edges s ⊎ (IsPriv seeds edges s → ⊥) → (o : Option (List ℕ)) × IsShown s o
        go (inl p) = let w = shortest edges seeds s p in (Some w.0, w.1)
        go (inr none) = (None, none)

    all_shown : (slots : ℕ) → (marks : Shown) × AreMarks seeds edges slots marks
    all_shown zero = ([], record { size = refl; paths = λ s lt. absurd (omega (arith, lt)) })
    all_shown (suc n) = go (all_shown n) (shown (record { 0 = n }))
      where
        go : ((marks : Shown) × AreMarks seeds edges n marks) → ((o : Option (List ℕ)) × IsShown (record { 0 = n }) o) → (marks : Shown) × AreMarks seeds edges (suc n) marks
        go m o = (m.0 ++ o.0 ∷ [], record { size = size; paths = paths })
          where
            long : length m.0 ≡ n
            long = m.1.size

            size : length (m.0 ++ o.0 ∷ []) ≡ suc n
            size = let more = length-append m.0 (o.0 ∷ []) in omega (arith, more, long)

            paths : (s : Slot) → s.0 < suc n → IsShown s (path_shown (m.0 ++ o.0 ∷ []) s)
            paths s lt = one (cases_lt s.0 n)
              where
                one : (s.0 < n) ⊎ (n ≤ s.0) → IsShown s (path_shown (m.0 ++ o.0 ∷ []) s)
                one (inl less) =
                    let same : get_or (m.0 ++ o.0 ∷ []) s.0 None ≡ get_or m.0 s.0 None = get_or_append_left m.0 (o.0 ∷ []) None s.0 (omega (arith, less, long)) in
                    subst (IsShown s) (sym same) (m.1.paths s less)
                one (inr more) =
                    let is : n ≡ s.0 = omega (arith, lt, more) in
                    let same : get_or (m.0 ++ o.0 ∷ []) s.0 None ≡ o.0 = get_or_at m.0 o.0 [] None s.0 (long ∙ is) in
                    let at : IsShown s o.0 = subst (λ (x : Slot). IsShown x o.0) (same_slot (record { 0 = n }) s is) o.1 in
                    subst (IsShown s) (sym same) at

pub marks_exist : ThereAreMarks
marks_exist seeds edges slots = all_shown edges seeds slots
