use Rattle.type_law.proofs.DeclarationsSizeLemmas.{sizes_are_sound}
use Rattle.type_law.proofs.declarations.sizes_are_sound.Goals as goal

pub returns : goal.returns
returns c = sizes_are_sound
