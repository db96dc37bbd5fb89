use Rattle.std.proofs.Common.{◌≡◌, ◌++◌, drop}
use Rattle.flow_edges.specs.MoveView.{moved_edges}
use Rattle.flow_edges.proofs.along.made.Given as goal

abbrev pub invariant-loop-moving : goal.invariant-loop-moving
invariant-loop-moving l = l.edges.items ++ moved_edges (drop l.moving-index l.moves) ≡ moved_edges l.fn.moves
