use Rattle.half_meaning_law.proofs.ExpressionLaw.{places}
use Rattle.half_meaning_law.proofs.places_keep_their_meaning.Goals as goal

pub returns : goal.returns
returns c = places
