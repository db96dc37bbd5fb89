use Rattle.slave_soundness_law.proofs.MessagesTaking.{takers_stay_in_format}
use Rattle.slave_soundness_law.proofs.messages.takers_stay_in_format.Goals as goal

pub returns : goal.returns
returns c = takers_stay_in_format
