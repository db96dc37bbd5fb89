use Rattle.type_law.proofs.DeclarationsLeavesLemmas.{leaves_are_sound}
use Rattle.type_law.proofs.declarations.leaves_are_sound.Goals as goal

pub returns : goal.returns
returns c = leaves_are_sound
