use Rattle.type_law.proofs.DeclarationsObjectLemmas.{results_are_sound}
use Rattle.type_law.proofs.declarations.results_are_sound.Goals as goal

pub returns : goal.returns
returns c = results_are_sound
