use Rattle.std.proofs.Common.{◌≡◌, drop}
use Rattle.std.specs.List.{list_all}
use Rattle.monitor_labels.specs.Counting.{is_below}
use Rattle.monitor_labels.proofs.nodes.are_below.Given as goal

-- the rest decides
abbrev pub invariant-loop-seed : goal.invariant-loop-seed
invariant-loop-seed l = list_all (is_below l.count) (drop l.seed-index l.seeds) ≡ list_all (is_below l.count) l.fn.seeds
