use Rattle.type_law.proofs.DeclarationsLeavesLemmas.{leaves_are_sound}
use Rattle.type_law.proofs.StatementsGlobalStarts.{starts_sound}
use Rattle.type_law.proofs.statements.starts_are_sound.Goals as goal

pub returns : goal.returns
returns c = starts_sound leaves_are_sound
