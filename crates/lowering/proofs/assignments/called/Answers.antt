use Rattle.lowering.proofs.PieceLemmas.{call_dropped}
use Rattle.lowering.proofs.assignments.called.Goals as goal

pub returns-in-Some : goal.returns-in-Some
returns-in-Some c = λ o e a h g. rw c.in-Some.is (c.called_for.ensures o e a h g)

pub returns-in_ok-call_alone-in-None : goal.returns-in_ok-call_alone-in-None
returns-in_ok-call_alone-in-None c = λ o e a h g. rw c.in-None.is (call_dropped o _ _ _ e a _ (c.in_ok-call_alone-in-None.ensures o a g) c.zero.ensures)
