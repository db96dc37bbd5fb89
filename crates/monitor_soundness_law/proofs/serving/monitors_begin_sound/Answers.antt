use Rattle.monitor_soundness_law.proofs.ServingLemmas.{monitors_begin_sound}
use Rattle.monitor_soundness_law.proofs.serving.monitors_begin_sound.Goals as goal

pub returns : goal.returns
returns c = monitors_begin_sound
