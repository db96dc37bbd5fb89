use Rattle.core_soundness_law.proofs.Steps.{step_keeps}
use Rattle.core_soundness_law.proofs.step_keeps.Goals as goal

pub returns : goal.returns
returns g c = step_keeps
