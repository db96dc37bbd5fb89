use Rattle.part_views_law.proofs.StepsInstances.{bodies_stand}
use Rattle.part_views_law.proofs.steps.bodies_stand.Goals as goal

pub returns : goal.returns
returns c = bodies_stand
