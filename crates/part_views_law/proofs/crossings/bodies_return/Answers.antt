use Rattle.part_views_law.proofs.CrossingsMachines.{bodies_return}
use Rattle.part_views_law.proofs.crossings.bodies_return.Goals as goal

pub returns : goal.returns
returns g c = bodies_return
