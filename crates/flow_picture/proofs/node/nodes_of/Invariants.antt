use Rattle.std.proofs.Common.{◌≡◌, ◌++◌, drop}
use Rattle.flow_picture.specs.Nodes.{nodes_of}
use Rattle.flow_picture.proofs.node.nodes_of.Given as goal

abbrev pub invariant-loop-slot : goal.invariant-loop-slot
invariant-loop-slot l = l.nodes.items ++ nodes_of (drop l.slot-index l.slots) ≡ nodes_of l.fn.slots
