use Rattle.part_views_law.proofs.StepsInstances.{slaves_stand}
use Rattle.part_views_law.proofs.steps.slaves_stand.Goals as goal

pub returns : goal.returns
returns c = slaves_stand
