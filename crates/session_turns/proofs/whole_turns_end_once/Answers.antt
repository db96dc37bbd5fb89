use Rattle.session_turns.proofs.TurnsTheorems.{whole_turns_end_once}
use Rattle.session_turns.proofs.whole_turns_end_once.Goals as goal

pub returns : goal.returns
returns c d = whole_turns_end_once _ _ _ _ _ _
