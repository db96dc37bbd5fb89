use Rattle.session_turns.proofs.TurnsTheorems.{whole_turns_are_alone}
use Rattle.session_turns.proofs.whole_turns_are_alone.Goals as goal

pub returns : goal.returns
returns c d = whole_turns_are_alone _ _ _ _ _ _
