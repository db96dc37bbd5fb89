use Rattle.half_meaning_law.proofs.Bodies.{bodies}
use Rattle.half_meaning_law.proofs.bodies_keep_their_meaning.Goals as goal

pub returns : goal.returns
returns c = bodies
