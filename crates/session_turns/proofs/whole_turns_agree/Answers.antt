use Rattle.session_turns.proofs.TurnsTheorems.{whole_turns_agree}
use Rattle.session_turns.proofs.whole_turns_agree.Goals as goal

pub returns : goal.returns
returns c d = whole_turns_agree _ _ _ _ _ _
