use Rattle.policy.specs.Places.{is_keyed}
use Rattle.policy.proofs.FitLemmas.{Ahead, left_in}
use Rattle.policy.proofs.deciding.first_fit.Given as goal

-- the rule that comes next in the chain has what is left
abbrev pub invariant-loop-next : goal.invariant-loop-next
invariant-loop-next l = Ahead (is_keyed l.rules l.state l.fn.f.0) l.plain l.rules l.uses l.next

abbrev pub decreases-loop-next : goal.decreases-loop-next
decreases-loop-next l = left_in l.rules l.next
