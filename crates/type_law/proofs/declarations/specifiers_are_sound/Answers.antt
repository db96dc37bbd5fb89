use Rattle.type_law.proofs.DeclarationsSpecifierLemmas.{specifiers_are_sound}
use Rattle.type_law.proofs.declarations.specifiers_are_sound.Goals as goal

pub returns : goal.returns
returns c = specifiers_are_sound
