use Rattle.std.proofs.Common.{◌≡◌, drop}
use Rattle.std.specs.List.{list_all}
use Rattle.label_threads.specs.OwnLabels.{is_within}
use Rattle.label_threads.proofs.edges.are_within.Given as goal

-- the rest decides
abbrev pub invariant-loop-edge : goal.invariant-loop-edge
invariant-loop-edge l = list_all (is_within l.count) (drop l.edge-index l.edges) ≡ list_all (is_within l.count) l.fn.edges
