use Rattle.core_steps_law.proofs.ArgumentsSteps.{added_steps}
use Rattle.core_steps_law.proofs.arguments.added_steps.Goals as goal

pub returns : goal.returns
returns g c = added_steps
