use Rattle.std.proofs.Common.{◌≡◌}
use Rattle.lowering.specs.Names.{scope_of}
use Rattle.lowering.specs.Walks.{ways_left, weight_left}
use Rattle.lowering.proofs.leaves.Walk.to_leaf.Given as goal

abbrev pub invariant-loop-self : goal.invariant-loop-self
invariant-loop-self l = ways_left (scope_of l.names).structs l.fn.self ≡ ways_left (scope_of l.names).structs l.self

abbrev pub decreases-loop-self : goal.decreases-loop-self
decreases-loop-self l = weight_left (scope_of l.names).structs l.self
