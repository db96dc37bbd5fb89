use Rattle.half_names_law.proofs.SaidChecked.{programs_place_nulls}
use Rattle.half_names_law.proofs.said.checked_programs_place_nulls.Goals as goal

pub returns : goal.returns
returns c = programs_place_nulls
