use Rattle.propagation.proofs.VisitLemmas.{Visits}
use Rattle.propagation.proofs.reached.Reached.visit.Given as goal

abbrev pub invariant-loop-at : goal.invariant-loop-at
invariant-loop-at l =
    Visits l.initial.self.places.items l.initial.self.order.items l.adjacent l.parent l.at l.self.places.items l.self.order.items
