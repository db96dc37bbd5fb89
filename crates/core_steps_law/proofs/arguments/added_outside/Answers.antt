use Rattle.core_steps_law.proofs.ArgumentsSteps.{added_outside}
use Rattle.core_steps_law.proofs.arguments.added_outside.Goals as goal

pub returns : goal.returns
returns c = added_outside
