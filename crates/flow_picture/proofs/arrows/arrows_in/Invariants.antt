use Rattle.std.proofs.Common.{◌++◌, drop}
use Rattle.std.specs.List.{flat_map}
use Rattle.flow_picture.specs.Kept.{HasSame, edge_arrows}
use Rattle.flow_picture.proofs.arrows.arrows_in.Given as goal

abbrev pub invariant-loop-edge : goal.invariant-loop-edge
invariant-loop-edge l =
    HasSame (l.arrows.items ++ flat_map (edge_arrows l.nodes l.shown) (drop l.edge-index l.edges)) (flat_map (edge_arrows l.fn.nodes l.fn.shown) l.fn.edges)
