use Rattle.std.proofs.Common.{◌≡◌, drop}
use Rattle.std.specs.List.{list_all}
use Rattle.flow_edges.specs.Within.{is_within}
use Rattle.flow_edges.proofs.within.are_within.Given as goal

abbrev pub invariant-loop-edge : goal.invariant-loop-edge
invariant-loop-edge l = list_all (is_within l.slots) (drop l.edge-index l.edges) ≡ list_all (is_within l.slots) l.fn.edges
