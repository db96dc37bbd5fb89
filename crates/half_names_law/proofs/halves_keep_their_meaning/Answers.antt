use Rattle.half_meaning_law.proofs.Bodies.{bodies}
use Rattle.half_names_law.proofs.Law.{meanings}
use Rattle.half_names_law.proofs.halves_keep_their_meaning.Goals as goal

pub returns : goal.returns
returns c = meanings bodies
