use Rattle.core_soundness_law.proofs.CalledKeeping.{steps_keep_called}
use Rattle.core_soundness_law.proofs.called.steps_keep_called.Goals as goal

pub returns : goal.returns
returns g c = steps_keep_called
