use Rattle.std.proofs.Common.{◌≡◌, ◌+◌, drop, length}
use Rattle.flow_edges.specs.MoveView.{moved_edges}
use Rattle.flow_edges.proofs.along.count_of.Given as goal

abbrev pub invariant-loop-moving : goal.invariant-loop-moving
invariant-loop-moving l = l.all + length (moved_edges (drop l.moving-index l.moves)) ≡ length (moved_edges l.fn.moves)
