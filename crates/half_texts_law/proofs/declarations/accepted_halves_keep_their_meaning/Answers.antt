use Rattle.half_texts_law.proofs.DeclarationsAccepted.{accepted_halves_mean}
use Rattle.half_texts_law.proofs.declarations.accepted_halves_keep_their_meaning.Goals as goal

pub returns : goal.returns
returns c = accepted_halves_mean c.accepted_halves_are_writable.ensures c.halves_keep_their_meaning.ensures
