use Rattle.std.proofs.Common.{◌≡◌, ◌++◌, drop}
use Rattle.monitor_labels.specs.Arrows.{joined_to}
use Rattle.monitor_labels.specs.Scopes.{pair_edges}
use Rattle.monitor_labels.proofs.aliases.add_joined_to.Given as goal

-- the edges so far, and then those with the others that are left
abbrev pub invariant-loop-other : goal.invariant-loop-other
invariant-loop-other l = l.edges.items ++ pair_edges (joined_to l.slot (drop l.other-index l.others)) ≡ l.fn.edges.items ++ pair_edges (joined_to l.slot l.fn.others)
