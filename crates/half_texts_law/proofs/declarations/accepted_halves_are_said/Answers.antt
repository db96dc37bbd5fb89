use Rattle.half_texts_law.proofs.DeclarationsSaidAccepted.{accepted_said}
use Rattle.half_texts_law.proofs.declarations.accepted_halves_are_said.Goals as goal

pub returns : goal.returns
returns c = accepted_said
