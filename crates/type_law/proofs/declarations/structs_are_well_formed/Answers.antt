use Rattle.type_law.proofs.DeclarationsStructLemmas.{structs_are_well_formed}
use Rattle.type_law.proofs.declarations.structs_are_well_formed.Goals as goal

pub returns : goal.returns
returns c = structs_are_well_formed
