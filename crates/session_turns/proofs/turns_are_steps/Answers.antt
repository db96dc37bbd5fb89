use Rattle.session_turns.proofs.Laters.{turns_are_steps}
use Rattle.session_turns.proofs.turns_are_steps.Goals as goal

pub returns : goal.returns
returns c d = turns_are_steps _ _ _ _ _ _
