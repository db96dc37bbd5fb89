use Rattle.core_soundness_law.proofs.CalledSteps.{started_call_own}
use Rattle.core_soundness_law.proofs.called.started_call_own.Goals as goal

pub returns : goal.returns
returns c = started_call_own
