use Rattle.lowered_code_law.proofs.FormsPrograms.{programs_are_well_formed}
use Rattle.lowered_code_law.proofs.forms.lowered_programs_are_well_formed.Goals as goal

pub returns : goal.returns
returns c = programs_are_well_formed
