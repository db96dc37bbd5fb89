use Rattle.slave_soundness_law.proofs.Stepping.{slaves_stay_sound}
use Rattle.slave_soundness_law.proofs.slaves_stay_sound.Goals as goal

pub returns : goal.returns
returns c = slaves_stay_sound
