use Rattle.core_steps_law.proofs.Sums.{steps_add}
use Rattle.core_steps_law.proofs.steps_add.Goals as goal

pub returns : goal.returns
returns g c = steps_add _
