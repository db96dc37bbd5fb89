use Rattle.part_views_law.proofs.Instances.{received_lie}
use Rattle.part_views_law.proofs.received_lie.Goals as goal

pub returns : goal.returns
returns c = received_lie
