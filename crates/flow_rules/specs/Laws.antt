-- What holds of faults.
use Rattle.std.specs.Prelude.{List, length, Err}
use Rattle.std.specs.List.{Contains}
use Rattle.pt_base.specs.declared.slot.Edge.{Edge}
use Rattle.propagation.specs.Marks.{AreMarks, Shown}
use Rattle.sides.specs.declared.halves.Sides.{Sides}
use Rattle.sides.specs.Placed.{AreSides}
use Rattle.sides.specs.Slots.{slots_of}
use Rattle.typed_tree.specs.TypedTree.{TypedTree}
use Rattle.flow_rules.specs.declared.fault.FlowError.TheVariants.{Faults}
use Rattle.flow_rules.specs.declared.fault.FlowFault.{FlowFault}
use Rattle.flow_rules.specs.Faults.{Answers, AreFlows, edges_of_all, flows_of}
use Rattle.flow_rules.specs.Findings.{Finding, findings_of}

-- What the rules look at is the program's own: the functions that calls reach, and the slots to which a path
-- of edges leads from a seed.
abbrev pub FlowsAreOwn : Type 0
FlowsAreOwn = (t : TypedTree) (s : Sides) (marks : Shown) →
    AreSides t s → AreMarks s.seeds (edges_of_all t s) (length (slots_of t)) marks →
    AreFlows t s.seeds (edges_of_all t s) (flows_of t s marks)

-- A program is refused only where a rule finds its fault.
abbrev pub RefusedForFaultsAlone : Type 0
RefusedForFaultsAlone = (t : TypedTree) (s : Sides) (edges : List Edge) (marks : Shown) (faults : List FlowFault) →
    Answers t s edges marks (Err (Faults faults)) → (x : Finding) × Contains (findings_of (flows_of t s marks)) x
