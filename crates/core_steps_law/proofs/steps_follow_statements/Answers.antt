use Rattle.core_steps_law.proofs.WholeSteps.{steps_follow_statements}
use Rattle.core_steps_law.proofs.steps_follow_statements.Goals as goal

pub returns : goal.returns
returns c = steps_follow_statements
