use Rattle.session_turns.proofs.Endings.{turns_end}
use Rattle.session_turns.proofs.turns_end.Goals as goal

pub returns : goal.returns
returns c d = turns_end _ _ _ _ _ _
