use Rattle.split_law.proofs.Monitors.{monitors}
use Rattle.split_law.proofs.monitors_are_well_formed.Goals as goal

pub returns : goal.returns
returns c = monitors c.lowered_programs_are_well_formed.ensures c.lowered_code_names_what_the_body_names.ensures
