use Rattle.session_turns.proofs.Laters.{turns_join}
use Rattle.session_turns.proofs.turns_join.Goals as goal

pub returns : goal.returns
returns c d = turns_join _ _ _ _ _ _
