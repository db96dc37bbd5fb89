use Rattle.part_views_law.proofs.CrossingsMachines.{bodies_are_entered}
use Rattle.part_views_law.proofs.crossings.bodies_are_entered.Goals as goal

pub returns : goal.returns
returns c = bodies_are_entered
