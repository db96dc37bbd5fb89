use Rattle.part_views_law.proofs.Instances.{served_are_viewed}
use Rattle.part_views_law.proofs.served_are_viewed.Goals as goal

pub returns : goal.returns
returns c = served_are_viewed
