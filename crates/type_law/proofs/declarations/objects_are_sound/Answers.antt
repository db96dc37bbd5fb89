use Rattle.type_law.proofs.DeclarationsObjectLemmas.{objects_are_sound}
use Rattle.type_law.proofs.declarations.objects_are_sound.Goals as goal

pub returns : goal.returns
returns c = objects_are_sound
