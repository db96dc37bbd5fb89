use Rattle.part_views_law.proofs.CrossingsStarted.{bodies_fit}
use Rattle.part_views_law.proofs.crossings.bodies_fit.Goals as goal

pub returns : goal.returns
returns c = bodies_fit
