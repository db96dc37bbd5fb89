-- What was found in a program is told.
use Rattle.std.specs.Prelude.{◌≡◌, ◌<◌, ◌⊎◌, List, [], length}
use Rattle.propagation.specs.Marks.{AreMarks, Shown}
use Rattle.sides.specs.declared.halves.Sides.{Sides}
use Rattle.sides.specs.Slots.{slots_of}
use Rattle.typed_tree.specs.TypedTree.{TypedTree}
use Rattle.flow_rules.specs.declared.fault.FlowFault.{FlowFault}
use Rattle.flow_rules.specs.Faults.{AreFaults, edges_of_all, flows_of}
use Rattle.flow_rules.specs.Findings.{findings_of}

-- with these sides and marks there are faults of the program
abbrev pub HasSomeFaults : TypedTree → Sides → Shown → Type 0
HasSomeFaults t s marks = (faults : List FlowFault) × AreFaults (flows_of t s marks) s.seeds (edges_of_all t s) faults × (0 < length faults)

-- With the marks of whatever sides, nothing was found in a program, or there are faults of it.
abbrev pub FindingsAreTold : Type 0
FindingsAreTold = (t : TypedTree) (s : Sides) (marks : Shown) → AreMarks s.seeds (edges_of_all t s) (length (slots_of t)) marks →
    (findings_of (flows_of t s marks) ≡ []) ⊎ HasSomeFaults t s marks
