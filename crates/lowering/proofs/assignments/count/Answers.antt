use Rattle.std.proofs.Common.{refl}
use Rattle.lowering.proofs.FormLemmas.{read_is}
use Rattle.lowering.proofs.assignments.count.Goals as goal

pub returns-then-postfix : goal.returns-then-postfix
returns-then-postfix c = λ o p low h. rw c.if-postfix.true (c.counted_after.ensures o _ _ (c.in_ok-to.ensures o low h) refl)

pub returns-in_ok-after : goal.returns-in_ok-after
returns-in_ok-after c = λ o p low h. rw (c.if-postfix.false, c.read.ensures) (read_is o _ _ _ (c.in_ok-after.ensures o _ (c.in_ok-to.ensures o low h)))
