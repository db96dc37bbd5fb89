use Rattle.slave_soundness_law.proofs.Beginning.{slaves_begin_sound}
use Rattle.slave_soundness_law.proofs.slaves_begin_sound.Goals as goal

pub returns : goal.returns
returns c = slaves_begin_sound
