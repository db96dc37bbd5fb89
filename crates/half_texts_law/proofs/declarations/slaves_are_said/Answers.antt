use Rattle.half_texts_law.proofs.DeclarationsSaidHalves.{slaves_said}
use Rattle.half_texts_law.proofs.declarations.slaves_are_said.Goals as goal

pub returns : goal.returns
returns c = slaves_said
