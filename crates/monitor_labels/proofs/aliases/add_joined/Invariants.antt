use Rattle.std.proofs.Common.{◌≡◌, ◌++◌, length}
use Rattle.monitor_labels.specs.Arrows.{joined_pairs}
use Rattle.monitor_labels.specs.Scopes.{pair_edges}
use Rattle.monitor_labels.proofs.aliases.add_joined.Given as goal

-- the edges so far, and then those between the slots that are left
abbrev pub invariant-loop-rest : goal.invariant-loop-rest
invariant-loop-rest l = l.edges.items ++ pair_edges (joined_pairs l.rest) ≡ l.fn.edges.items ++ pair_edges (joined_pairs l.fn.slots)

abbrev pub decreases-loop-rest : goal.decreases-loop-rest
decreases-loop-rest l = length l.rest
