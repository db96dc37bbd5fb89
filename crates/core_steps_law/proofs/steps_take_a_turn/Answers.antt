use Rattle.core_steps_law.proofs.TurnBounds.{steps_take_a_turn}
use Rattle.core_steps_law.proofs.steps_take_a_turn.Goals as goal

pub returns : goal.returns
returns g c = steps_take_a_turn _
