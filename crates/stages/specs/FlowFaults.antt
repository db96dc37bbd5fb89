-- The faults of the flows of a program.
use Rattle.std.specs.Prelude.{◌<◌, List, [], None, length}
use Rattle.propagation.specs.Marks as marking
use Rattle.propagation.specs.Marks.{AreMarks}
use Rattle.sides.specs.declared.halves.Sides.{Sides}
use Rattle.sides.specs.Placed.{AreSides}
use Rattle.sides.specs.Slots.{slots_of}
use Rattle.typed_tree.specs.TypedTree.{TypedTree}
use Rattle.flow_rules.specs.declared.fault.FlowFault.{FlowFault}
use Rattle.flow_rules.specs.Faults.{AreFaults, edges_of_all, flows_of}

-- these are the faults of the program's flows, of which there is one
pub record HasFlowFaults (t : TypedTree) (faults : List FlowFault) : Type 0 where
  pub sides : Sides
  pub placed : AreSides t sides
  pub marks : marking.Shown
  pub marked : AreMarks sides.seeds (edges_of_all t sides) (length (slots_of t)) marks
  pub all : AreFaults (flows_of t sides marks) sides.seeds (edges_of_all t sides) faults
  pub some : 0 < length faults

-- a fault without the way that it shows, and without where that begins
abbrev pub without_way : FlowFault → FlowFault
without_way f = record { rule = f.rule; span = f.span; origin = None; path = [] }
