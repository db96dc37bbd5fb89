use Rattle.part_views_law.proofs.StepsRuns.{parts_step}
use Rattle.part_views_law.proofs.steps.parts_step.Goals as goal

pub returns : goal.returns
returns g c = parts_step
