use Rattle.part_views_law.proofs.CrossingsBeginning.{bodies_are_viewed}
use Rattle.part_views_law.proofs.crossings.bodies_are_viewed.Goals as goal

pub returns : goal.returns
returns c = bodies_are_viewed
