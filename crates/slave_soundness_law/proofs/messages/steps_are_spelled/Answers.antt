use Rattle.slave_soundness_law.proofs.MessagesStepping.{steps_are_spelled}
use Rattle.slave_soundness_law.proofs.messages.steps_are_spelled.Goals as goal

pub returns : goal.returns
returns c = steps_are_spelled
