use Rattle.std.proofs.Common.{◌≡◌, ◌++◌, drop}
use Rattle.std.specs.List.{flat_map}
use Rattle.flow_edges.specs.MoveView.{view_move}
use Rattle.flow_edges.specs.Moves.{edges_from, leaf_edges}
use Rattle.flow_edges.proofs.moves.Move.add_leaf.Given as goal

abbrev pub invariant-loop-from : goal.invariant-loop-from
invariant-loop-from l =
    l.edges.items ++ flat_map (edges_from (view_move l.self) l.leaf) (drop l.from-index l.self.from.items)
    ≡ l.fn.edges.items ++ leaf_edges (view_move l.self) l.leaf
