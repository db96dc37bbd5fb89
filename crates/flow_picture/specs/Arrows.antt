-- Along which arrows values move, and which of these are on the way of a fault.
use Rattle.std.specs.Prelude.{◌≡◌, ◌↔◌, List, Bool}
use Rattle.std.specs.List.{Contains, list_any}
use Rattle.std.specs.List.Sorted.{IsStrictlySortedBy}
use Rattle.std.specs.Ordering.{is_eq, ordering_then}
use Rattle.std.specs.declared.cmp.Ordering.{Ordering}
use Rattle.pt_base.specs.declared.slot.Edge.{Edge}
use Rattle.pt_base.specs.declared.span.Span.{Span}
use Rattle.sides.specs.declared.halves.Sides.{Sides}
use Rattle.typed_tree.specs.TypedTree.{TypedTree}
use Rattle.flow_rules.specs.declared.fault.FlowFault.{FlowFault}
use Rattle.flow_rules.specs.Faults.{edges_of_all}
use Rattle.flow_picture.specs.declared.arrow.Arrow.{Arrow}
use Rattle.flow_picture.specs.declared.node.Node.{Node}
use Rattle.flow_picture.specs.Nodes.{node_at, node_cmp}

-- ---- which there are

-- the edge leads from a slot of the arrow's one node to a slot of its other one, and both are shown
abbrev pub Joins : TypedTree → List Node → Arrow → Edge → Type 0
Joins t shown a e = (node_at t e.from.0 ≡ a.from) × (node_at t e.to.0 ≡ a.to) × (Contains shown a.from × Contains shown a.to)

-- the value at this place is a step of the way that one of these faults tells
abbrev pub IsStep : List FlowFault → Span → Type 0
IsStep faults span = (f : FlowFault) × Contains faults f × Contains f.path span

-- a value moves along it
abbrev pub IsArrow : TypedTree → Sides → List Node → Arrow → Type 0
IsArrow t s shown a = (e : Edge) × Contains (edges_of_all t s) e × Joins t shown a e

-- and this is a step of a fault's way
abbrev pub IsWay : TypedTree → Sides → List Node → List FlowFault → Arrow → Type 0
IsWay t s shown faults a = (e : Edge) × Contains (edges_of_all t s) e × (Joins t shown a e × IsStep faults e.span)

-- ---- lists

-- by their first nodes, then by their second ones
abbrev pub arrow_cmp : Arrow → Arrow → Ordering
arrow_cmp a b = ordering_then (node_cmp a.from b.from) (node_cmp a.to b.to)

-- it stands among these
abbrev pub is_on : List Arrow → Arrow → Bool
is_on arrows x = list_any (λ y. is_eq (arrow_cmp y x)) arrows

-- all arrows of which this holds, each once and in order
pub record AreArrows (Has : Arrow → Type 0) (arrows : List Arrow) : Type 0 where
  pub sorted : IsStrictlySortedBy arrow_cmp arrows
  pub same : (x : Arrow) → Contains arrows x ↔ Has x
