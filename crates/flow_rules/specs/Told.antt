-- How what was found is told: each fault once, in order, with a way to the slot that was kept.
use Rattle.std.specs.Prelude.{◌≡◌, ℕ, List, [], ◌∷◌, Option, None, Some, Bool, true, ◌&&◌, nat_eq}
use Rattle.std.specs.List.{Contains}
use Rattle.std.specs.declared.cmp.Ordering.{Ordering}
use Rattle.std.specs.Ordering.{nat_cmp, ordering_then}
use Rattle.pt_base.specs.declared.slot.Edge.{Edge}
use Rattle.pt_base.specs.declared.slot.Slot.{Slot}
use Rattle.pt_base.specs.declared.span.Span.{Span}
use Rattle.propagation.specs.Paths.{from_of}
use Rattle.reach.specs.Tables.{slot_number}
use Rattle.flow_rules.specs.declared.fault.FlowFault.{FlowFault}
use Rattle.flow_rules.specs.declared.found.Found.{Found}
use Rattle.flow_rules.specs.Faults.{IsShortestFrom, span_cmp, spans_of}
use Rattle.flow_rules.specs.Numbers.{rule_number}
use Rattle.flow_rules.specs.Secrets.{Flows}

-- by their places, then by number
abbrev pub found_cmp : Found → Found → Ordering
found_cmp a b = ordering_then (span_cmp a.span b.span) (nat_cmp (rule_number a.rule) (rule_number b.rule))

-- both tell that the same rule is broken at the same place
abbrev pub same_fault : Found → Found → Bool
same_fault a b = (nat_eq a.span.from b.span.from && nat_eq a.span.to b.span.to) && nat_eq (rule_number a.rule) (rule_number b.rule)

abbrev pub IsSameFault : Found → Found → Type 0
IsSameFault a b = (a.rule ≡ b.rule) × (a.span ≡ b.span)

-- the slot to which a way is shown is privileged
abbrev pub IsShownPriv : Flows → Option ℕ → Type 0
IsShownPriv p slot = (s : ℕ) → slot ≡ Some s → p.is_priv s ≡ true

abbrev pub AllShownPriv : Flows → List Found → Type 0
AllShownPriv p xs = (x : Found) → Contains xs x → IsShownPriv p x.slot

-- where the edges with these numbers begin, if they lead to this slot
abbrev pub begins_at : List Edge → List ℕ → Slot → Slot
begins_at edges [] slot = slot
begins_at edges (k ∷ path) slot = from_of edges k

-- where a secret begins and how it comes to a slot: along edges from a seed, as few as there can be; nothing where
-- there is none
abbrev pub ShowsWayTo : List Slot → List Edge → Option Slot → List Span → Option ℕ → Type 0
ShowsWayTo seeds edges origin spans None = (origin ≡ None) × (spans ≡ [])
ShowsWayTo seeds edges origin spans (Some s) =
    (seed : Slot) × (path : List ℕ) × (origin ≡ Some seed) × IsShortestFrom seeds edges seed path (slot_number s) × (spans ≡ spans_of edges path)

-- a fault tells what was kept
abbrev pub TellsKept : List Slot → List Edge → Found → FlowFault → Type 0
TellsKept seeds edges x fault = (fault.rule ≡ x.rule) × ((fault.span ≡ x.span) × ShowsWayTo seeds edges fault.origin fault.path x.slot)

-- faults tell what was kept, one after the other
abbrev pub AreTold : List Slot → List Edge → List Found → List FlowFault → Type 0
AreTold seeds edges [] [] = Unit {0}
AreTold seeds edges (x ∷ xs) (f ∷ fs) = TellsKept seeds edges x f × AreTold seeds edges xs fs
AreTold seeds edges [] (f ∷ fs) = ⊥
AreTold seeds edges (x ∷ xs) [] = ⊥
