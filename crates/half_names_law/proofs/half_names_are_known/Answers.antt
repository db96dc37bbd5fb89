use Rattle.half_meaning_law.proofs.Bodies.{bodies}
use Rattle.half_names_law.proofs.Law.{half_names}
use Rattle.half_names_law.proofs.half_names_are_known.Goals as goal

pub returns : goal.returns
returns c = half_names bodies
