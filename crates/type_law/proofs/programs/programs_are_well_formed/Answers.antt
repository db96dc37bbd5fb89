use Rattle.type_law.proofs.ProgramsAreWellFormed.{programs_are_well_formed}
use Rattle.type_law.proofs.programs.programs_are_well_formed.Goals as goal

pub returns : goal.returns
returns c = programs_are_well_formed
