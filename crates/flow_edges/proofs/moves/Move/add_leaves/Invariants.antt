use Rattle.std.proofs.Common.{◌≡◌, ◌++◌, ◌-◌}
use Rattle.std.specs.List.{flat_map, range_with_len}
use Rattle.flow_edges.specs.MoveView.{view_move}
use Rattle.flow_edges.specs.Moves.{leaf_edges, move_edges}
use Rattle.flow_edges.proofs.moves.Move.add_leaves.Given as goal

abbrev pub invariant-loop-leaf : goal.invariant-loop-leaf
invariant-loop-leaf l =
    l.edges.items ++ flat_map (leaf_edges (view_move l.self)) (range_with_len l.leaf (l.self.leaves - l.leaf))
    ≡ l.fn.edges.items ++ move_edges (view_move l.self)
