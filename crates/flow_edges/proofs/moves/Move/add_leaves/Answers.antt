-- One leaf after the other.
use Rattle.std.proofs.Common.{arith}
use Rattle.flow_edges.specs.MoveView.{view_move}
use Rattle.flow_edges.proofs.MoveLemmas.{next_leaf}
use Rattle.flow_edges.proofs.moves.Move.add_leaves.Goals as goal

pub loop-leaf-preserved : goal.loop-leaf-preserved
loop-leaf-preserved c =
    next_leaf (view_move c.args.self.now) c.loop-leaf.edges.items _ _ c.args.self.now.leaves c.loop-leaf.leaf
    (grind arith) c.in_ok-add_leaf.ensures c.loop-leaf.invariant
