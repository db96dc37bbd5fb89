use Rattle.lowering.proofs.OutputLemmas.{held_is}
use Rattle.lowering.proofs.output.held_if.Goals as goal

pub returns-in_ok-k : goal.returns-in_ok-k
returns-in_ok-k c = λ o x low g e. rw (c.if-is_held.true, c.temp.ensures) (held_is _ _ _ _ _ _ _ _ g e c.in_ok-k.ensures.number c.in_ok-k.ensures.output)

pub returns-else-is_held : goal.returns-else-is_held
returns-else-is_held c = λ o x low g e. rw c.if-is_held.false g
