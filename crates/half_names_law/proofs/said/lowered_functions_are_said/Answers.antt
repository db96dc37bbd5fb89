use Rattle.half_names_law.proofs.SaidPrograms.{functions_said}
use Rattle.half_names_law.proofs.said.lowered_functions_are_said.Goals as goal

pub returns : goal.returns
returns c = functions_said
