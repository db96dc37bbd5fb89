use Rattle.part_views_law.proofs.StepsStanding.{parts_stand}
use Rattle.part_views_law.proofs.steps.parts_stand.Goals as goal

pub returns : goal.returns
returns g c = parts_stand
