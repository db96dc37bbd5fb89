use Rattle.lowered_code_law.proofs.NamesBodies.{lowered_names}
use Rattle.lowered_code_law.proofs.names.lowered_code_names_what_the_body_names.Goals as goal

pub returns : goal.returns
returns c = lowered_names
