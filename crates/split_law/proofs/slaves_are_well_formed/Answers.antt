use Rattle.split_law.proofs.Slaves.{slaves}
use Rattle.split_law.proofs.slaves_are_well_formed.Goals as goal

pub returns : goal.returns
returns c = slaves c.lowered_programs_are_well_formed.ensures c.lowered_code_names_what_the_body_names.ensures
