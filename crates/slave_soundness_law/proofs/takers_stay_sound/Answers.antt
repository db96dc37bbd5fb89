use Rattle.slave_soundness_law.proofs.Taking.{takers_stay_sound}
use Rattle.slave_soundness_law.proofs.takers_stay_sound.Goals as goal

pub returns : goal.returns
returns c = takers_stay_sound
