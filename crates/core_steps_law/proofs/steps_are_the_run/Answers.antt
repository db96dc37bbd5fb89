use Rattle.core_steps_law.proofs.WholeSteps.{steps_are_the_run}
use Rattle.core_steps_law.proofs.steps_are_the_run.Goals as goal

pub returns : goal.returns
returns c = steps_are_the_run
