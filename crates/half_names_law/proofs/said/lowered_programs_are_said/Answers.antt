use Rattle.half_names_law.proofs.SaidPrograms.{programs_said}
use Rattle.half_names_law.proofs.said.lowered_programs_are_said.Goals as goal

pub returns : goal.returns
returns c = programs_said
