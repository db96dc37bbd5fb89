use Rattle.session_turns.proofs.TwoAddersTurn.{adders_turn}
use Rattle.session_turns.proofs.adders_turn.Goals as goal

pub returns : goal.returns
returns c = adders_turn
