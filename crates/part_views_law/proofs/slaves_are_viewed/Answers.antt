use Rattle.part_views_law.proofs.Instances.{slaves_are_viewed}
use Rattle.part_views_law.proofs.slaves_are_viewed.Goals as goal

pub returns : goal.returns
returns c = slaves_are_viewed
