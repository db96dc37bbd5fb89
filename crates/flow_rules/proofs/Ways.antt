-- A fault with its way, tried: main returns what `get` has put behind its pointer.
use Rattle.std.proofs.Common.{◌≡◌, ◌≢◌, ◌∙◌, ◌<◌, ◌≤◌, ◌⊎◌, ℕ, zero, suc, refl, ap, sym, subst, inl, inr, arith, true, false, Some, List, [], ◌∷◌, length}
use Rattle.std.specs.List.{Contains}
use Rattle.pt_base.specs.declared.slot.Edge.{Edge}
use Rattle.pt_base.specs.declared.slot.Slot.{Slot}
use Rattle.pt_base.proofs.Members.{contains_cases, contains_first, contains_nothing}
use Rattle.propagation.specs.Paths.{from_of, to_of, Leads}
use Rattle.sides.proofs.Worked.{span}
use Rattle.reach.specs.Tables.{slot_number}
use Rattle.flow_edges.proofs.Worked.{edge}
use Rattle.flow_rules.proofs.Worked.{flows, fn, status, status_faults}
use Rattle.flow_rules.specs.declared.fault.FlowFault.{FlowFault}
use Rattle.flow_rules.specs.declared.rule.Rule.TheVariants.{PrivStatus}
use Rattle.flow_rules.specs.Faults.{IsFault, IsShortestFrom}
use Rattle.flow_rules.specs.Findings.{Finding, finding}
use Rattle.flow_rules.specs.Secrets.{Flows}

abbrev ways : List Edge
ways = edge 63 70 3 1 ∷ edge 102 104 2 1 ∷ edge 102 104 1 2 ∷ edge 114 115 2 5 ∷ []

abbrev looked : Flows
looked = flows status (fn 1 ∷ fn 2 ∷ []) [] (false ∷ true ∷ true ∷ true ∷ false ∷ true ∷ [])

abbrev told : FlowFault
told = record { rule = PrivStatus; span = span 114 115; origin = Some (slot_number 3); path = span 63 70 ∷ span 102 104 ∷ [] }

differ : (a b : ℕ) → a ≢ b → slot_number a ≢ slot_number b
differ a b h e = h (ap (λ (s : Slot). s.0) e)

only_seed : (seed : Slot) → Contains (slot_number 3 ∷ []) seed → slot_number 3 ≡ seed
only_seed seed is = go (contains_cases (slot_number 3) [] seed is)
  where
    go : (slot_number 3 ≡ seed) ⊎ Contains [] seed → slot_number 3 ≡ seed
    go (inl e) = e
    go (inr none) = absurd (contains_nothing seed none)

-- no edge leads from what `load` returns to a
no_edge_there : (k : ℕ) → k < length ways → from_of ways k ≡ slot_number 3 → to_of ways k ≡ slot_number 2 → ⊥
no_edge_there zero lt from to = differ 1 2 (λ e. absurd (omega (arith, e))) to
no_edge_there (suc zero) lt from to = differ 2 3 (λ e. absurd (omega (arith, e))) from
no_edge_there (suc (suc zero)) lt from to = differ 1 3 (λ e. absurd (omega (arith, e))) from
no_edge_there (suc (suc (suc zero))) lt from to = differ 2 3 (λ e. absurd (omega (arith, e))) from
no_edge_there (suc (suc (suc (suc k)))) lt from to = absurd (omega (arith, lt))

fewest : (seed : Slot) (path : List ℕ) → Contains (slot_number 3 ∷ []) seed → Leads ways path seed (slot_number 2) → 2 ≤ length path
fewest seed [] is leads = absurd (differ 3 2 (λ e. absurd (omega (arith, e))) (only_seed seed is ∙ leads))
fewest seed (k ∷ []) is leads = absurd (no_edge_there k leads.0 (leads.1 ∙ sym (only_seed seed is)) leads.2)
fewest seed (k ∷ j ∷ path) is leads = omega arith

-- from what `load` returns to what p points to, and on to a
way : IsShortestFrom (slot_number 3 ∷ []) ways (slot_number 3) (0 ∷ 2 ∷ []) (slot_number 2)
way = (contains_first (slot_number 3) [], (omega arith, refl, (omega arith, refl, refl)), fewest)

returned : IsFault looked (slot_number 3 ∷ []) ways told
returned = (
  finding PrivStatus (span 114 115) (2 ∷ []),
  subst (λ (xs : List Finding). Contains xs (finding PrivStatus (span 114 115) (2 ∷ []))) (sym status_faults) (contains_first (finding PrivStatus (span 114 115) (2 ∷ [])) []),
  (refl, refl),
  (2, slot_number 3, 0 ∷ 2 ∷ [], contains_first 2 [], refl, way, refl),
)
