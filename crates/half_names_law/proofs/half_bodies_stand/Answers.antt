use Rattle.half_meaning_law.proofs.Bodies.{bodies}
use Rattle.half_names_law.proofs.Trees.{bodies_stand}
use Rattle.half_names_law.proofs.half_bodies_stand.Goals as goal

pub returns : goal.returns
returns c = bodies_stand bodies
