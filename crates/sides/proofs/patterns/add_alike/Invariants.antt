use Rattle.std.proofs.Common.{◌≡◌, ◌++◌, drop, map}
use Rattle.sides.specs.Patterns.{with_owner}
use Rattle.sides.proofs.patterns.add_alike.Given as goal

abbrev pub invariant-loop-slot : goal.invariant-loop-slot
invariant-loop-slot l = l.slots.items ++ map (with_owner l.owner) (drop l.slot-index l.pattern) ≡ l.fn.slots.items ++ map (with_owner l.fn.owner) l.fn.pattern
