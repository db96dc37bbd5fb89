use Rattle.half_names_law.proofs.SaidCheckedCode.{checked_said}
use Rattle.half_names_law.proofs.said.checked_functions_are_said.Goals as goal

pub returns : goal.returns
returns c = checked_said
