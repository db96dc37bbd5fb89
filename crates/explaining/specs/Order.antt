-- The order in which faults of flows are explained: those of one beginning stand together.
use Rattle.std.specs.Prelude.{◌↔◌, ℕ, List, [], ◌∷◌, Option, None, Some}
use Rattle.std.specs.List.{Contains}
use Rattle.std.specs.List.Sorted.{IsStrictlySortedBy}
use Rattle.std.specs.Ordering.{nat_cmp, ordering_then}
use Rattle.std.specs.declared.cmp.Ordering.{Ordering}
use Rattle.pt_base.specs.declared.slot.Slot.{Slot}
use Rattle.pt_base.specs.declared.span.Span.{Span}
use Rattle.flow_rules.specs.declared.fault.FlowFault.{FlowFault}
use Rattle.flow_rules.specs.Faults.{fault_cmp, span_cmp}

-- where a fault's way begins; its own place where it shows none
abbrev pub first_of : Span → List Span → Span
first_of here [] = here
first_of here (span ∷ spans) = span

-- whether there is a seed, as a number, and the seed's number
abbrev pub known : Option Slot → ℕ
known None = 0
known (Some slot) = 1

abbrev pub seed_number : Option Slot → ℕ
seed_number None = 0
seed_number (Some slot) = slot.0

abbrev pub beginning : FlowFault → Span
beginning f = first_of f.span f.path

-- by where their secrets begin and by where their ways do, then as `check` reports them
abbrev pub beginning_cmp : FlowFault → FlowFault → Ordering
beginning_cmp a b =
    ordering_then (nat_cmp (known a.origin) (known b.origin)) (ordering_then (nat_cmp (seed_number a.origin) (seed_number b.origin)) (ordering_then (span_cmp (beginning a) (beginning b)) (fault_cmp a b)))

-- these are the same faults, each once, in that order
pub record AreInTurn (faults order : List FlowFault) : Type 0 where
  pub sorted : IsStrictlySortedBy beginning_cmp order
  pub same : (f : FlowFault) → Contains order f ↔ Contains faults f
