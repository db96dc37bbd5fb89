use Rattle.core_soundness_law.proofs.CalledSteps.{steps_call_own}
use Rattle.core_soundness_law.proofs.called.steps_call_own.Goals as goal

pub returns : goal.returns
returns g c = steps_call_own
