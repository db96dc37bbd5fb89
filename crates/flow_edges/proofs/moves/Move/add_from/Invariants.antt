use Rattle.std.proofs.Common.{◌≡◌, ◌++◌, ◌+◌, drop}
use Rattle.std.specs.List.{flat_map}
use Rattle.flow_edges.specs.MoveView.{view_move}
use Rattle.flow_edges.specs.Moves.{edges_between, edges_from}
use Rattle.flow_edges.proofs.moves.Move.add_from.Given as goal

abbrev pub invariant-loop-to : goal.invariant-loop-to
invariant-loop-to l =
    l.edges.items ++ flat_map (λ b. edges_between (view_move l.self) (l.from + l.leaf) (b + l.leaf)) (drop l.to-index l.self.to.items)
    ≡ l.fn.edges.items ++ edges_from (view_move l.self) l.leaf l.from
