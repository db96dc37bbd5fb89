use Rattle.std.proofs.Common.{◌++◌, drop}
use Rattle.std.specs.List.{flat_map}
use Rattle.flow_picture.specs.Kept.{HasSame, way_arrows}
use Rattle.flow_picture.proofs.arrows.ways_in.Given as goal

abbrev pub invariant-loop-edge : goal.invariant-loop-edge
invariant-loop-edge l =
    HasSame (l.ways.items ++ flat_map (way_arrows l.nodes l.shown l.steps) (drop l.edge-index l.edges)) (flat_map (way_arrows l.fn.nodes l.fn.shown l.fn.steps) l.fn.edges)
