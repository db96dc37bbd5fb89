use Rattle.half_meaning_law.proofs.Bodies.{bodies}
use Rattle.half_names_law.proofs.Law.{own_names}
use Rattle.half_names_law.proofs.own_names_are_known.Goals as goal

pub returns : goal.returns
returns c = own_names bodies
