use Rattle.outlining.proofs.ExistingOutlines.{accepted_outlined}
use Rattle.outlining.proofs.laws.accepted_texts_have_outlines.Goals as goal

pub returns : goal.returns
returns c = accepted_outlined
