use Rattle.half_texts_law.proofs.DeclarationsSaidHalves.{monitors_said}
use Rattle.half_texts_law.proofs.declarations.monitors_are_said.Goals as goal

pub returns : goal.returns
returns c = monitors_said
