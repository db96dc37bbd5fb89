use Rattle.handle_classes.proofs.StepKeeps.{steps_keep_fine}
use Rattle.handle_classes.proofs.steps_keep_fine.Goals as goal

pub returns : goal.returns
returns g c = steps_keep_fine
