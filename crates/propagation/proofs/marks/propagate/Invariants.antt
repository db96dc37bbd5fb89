use Rattle.std.proofs.Common.{◌-◌}
use Rattle.propagation.proofs.VisitLemmas.{Walking}
use Rattle.propagation.proofs.marks.propagate.Given as goal

abbrev pub invariant-loop-next : goal.invariant-loop-next
invariant-loop-next l = Walking l.fn.seeds l.edges l.fn.slots l.reached.places.items l.reached.order.items l.next

abbrev pub decreases-loop-next : goal.decreases-loop-next
decreases-loop-next l = l.fn.slots - l.next
