-- The faults of a program: each place once where it breaks a rule, in the order of the text, with a way by
-- which a secret comes there.
use Rattle.std.specs.Prelude.{◌≡◌, ◌↔◌, ◌<◌, ℕ, List, [], ◌∷◌, Option, None, Some, true, is_some, length, map, slice_index_or, All, Result, Ok, Err}
use Rattle.std.specs.List.{Contains, flat_map}
use Rattle.std.specs.List.Sorted.{IsStrictlySortedBy}
use Rattle.std.specs.declared.cmp.Ordering.{Ordering}
use Rattle.std.specs.Ordering.{nat_cmp, ordering_then}
use Rattle.pt_base.specs.declared.slot.Edge.{Edge}
use Rattle.pt_base.specs.declared.slot.Slot.{Slot}
use Rattle.pt_base.specs.declared.span.Span.{Span}
use Rattle.propagation.specs.Marks.{AreMarks, Shown, path_shown}
use Rattle.propagation.specs.Paths.{IsFewest, IsPriv, Leads, no_edge}
use Rattle.sides.specs.declared.halves.Sides.{Sides}
use Rattle.reach.specs.Contexts.{InMonitor, InSlave}
use Rattle.sides.specs.Placed.{AreSides}
use Rattle.sides.specs.Seeds.{IsSeed}
use Rattle.sides.specs.Slots.{slots_of}
use Rattle.reach.specs.Sorted.{Lists}
use Rattle.reach.specs.Tables.{slot_number}
use Rattle.typed_tree.specs.TypedTree.{TypedTree}
use Rattle.flow_edges.specs.Edges.{edges_in}
use Rattle.flow_rules.specs.declared.accepted.Accepted.{Accepted}
use Rattle.flow_rules.specs.declared.fault.FlowError.{FlowError}
use Rattle.flow_rules.specs.declared.fault.FlowError.TheVariants.{Faults, Memory}
use Rattle.flow_rules.specs.declared.fault.FlowFault.{FlowFault}
use Rattle.flow_rules.specs.Findings.{Finding, findings_of}
use Rattle.flow_rules.specs.Numbers.{rule_number}
use Rattle.flow_rules.specs.Secrets.{Flows}
pub use Rattle.pt_base.specs.Spans.{span_cmp}

-- ---- what the rules look at

-- the edges of the slave's functions, in their order
abbrev pub edges_of_all : TypedTree → Sides → List Edge
edges_of_all t s = flat_map (edges_in t) s.slave

abbrev pub flows_of : TypedTree → Sides → Shown → Flows
flows_of t s marks = record { tree = t; slave = s.slave; monitor = s.monitor; is_priv = λ n. is_some (path_shown marks (slot_number n)) }

-- the functions of the halves, and the slots that a way of edges joins to a seed
pub record AreFlows (t : TypedTree) (seeds : List Slot) (edges : List Edge) (p : Flows) : Type 0 where
  pub tree : p.tree ≡ t
  pub slave : Lists (λ f. f.0) (InSlave t) p.slave
  pub monitor : Lists (λ f. f.0) (InMonitor t) p.monitor
  pub seeds_are : Lists (λ s. s.0) (IsSeed t) seeds
  pub edges_are : edges ≡ flat_map (edges_in t) p.slave
  pub privileged : (n : ℕ) → n < length (slots_of t) → (p.is_priv n ≡ true) ↔ IsPriv seeds edges (slot_number n)

-- ---- faults

-- by their places, then by number
abbrev pub fault_cmp : FlowFault → FlowFault → Ordering
fault_cmp a b = ordering_then (span_cmp a.span b.span) (nat_cmp (rule_number a.rule) (rule_number b.rule))

-- both say that the same rule is broken at the same place
abbrev pub Tells : FlowFault → Finding → Type 0
Tells fault x = (fault.rule ≡ x.rule) × (fault.span ≡ x.span)

-- the spans of the edges of these numbers
abbrev pub spans_of : List Edge → List ℕ → List Span
spans_of edges path = map (λ k. (slice_index_or edges k no_edge).span) path

-- the path leads from this seed to the slot, and no path from a seed to the slot has fewer edges
abbrev pub IsShortestFrom : List Slot → List Edge → Slot → List ℕ → Slot → Type 0
IsShortestFrom seeds edges seed path s = Contains seeds seed × Leads edges path seed s × IsFewest seeds edges (length path) s

-- where a secret begins and how it comes to one of these slots: along edges from a seed, as few as there can be;
-- nothing where there are none
abbrev pub ShowsWay : List Slot → List Edge → Option Slot → List Span → List ℕ → Type 0
ShowsWay seeds edges origin spans [] = (origin ≡ None) × (spans ≡ [])
ShowsWay seeds edges origin spans (s ∷ ss) =
    (n : ℕ) × (seed : Slot) × (path : List ℕ) × Contains (s ∷ ss) n × (origin ≡ Some seed) × IsShortestFrom seeds edges seed path (slot_number n) × (spans ≡ spans_of edges path)

-- a fault tells of something that was found, and where a secret begins and how it came there
abbrev pub IsFault : Flows → List Slot → List Edge → FlowFault → Type 0
IsFault p seeds edges fault = (x : Finding) × Contains (findings_of p) x × Tells fault x × ShowsWay seeds edges fault.origin fault.path x.slots

-- The faults are strictly ascending, so that each stands once; each is one, and all that was found is told.
pub record AreFaults (p : Flows) (seeds : List Slot) (edges : List Edge) (faults : List FlowFault) : Type 0 where
  pub sorted : IsStrictlySortedBy fault_cmp faults
  pub true_ones : All (IsFault p seeds edges) faults
  pub all : (x : Finding) → Contains (findings_of p) x → (fault : FlowFault) × Contains faults fault × Tells fault x

-- ---- acceptance

-- the program breaks no rule, and these are its halves and its privileged slots
pub record IsAccepted (t : TypedTree) (a : Accepted) : Type 0 where
  pub sides : AreSides t a.sides
  pub marks : AreMarks a.sides.seeds (edges_of_all t a.sides) (length (slots_of t)) a.marks
  pub faultless : findings_of (flows_of t a.sides a.marks) ≡ []

-- without a fault what is kept, else all faults
abbrev pub Answers : TypedTree → Sides → List Edge → Shown → Result Accepted FlowError → Type 0
Answers t s edges marks (Ok a) = IsAccepted t a × ((a.sides ≡ s) × (a.marks ≡ marks))
Answers t s edges marks (Err (Faults fs)) = AreFaults (flows_of t s marks) s.seeds edges fs × (0 < length fs)
Answers t s edges marks (Err Memory) = Unit {0}
