use Rattle.part_views_law.proofs.StepsRuns.{parts_run}
use Rattle.part_views_law.proofs.steps.parts_run.Goals as goal

pub returns : goal.returns
returns g c = parts_run
