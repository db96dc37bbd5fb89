use Rattle.lowered_code_law.proofs.LocalityBodies.{lowering_sees}
use Rattle.lowered_code_law.proofs.locality.lowering_sees_one_body.Goals as goal

pub returns : goal.returns
returns c = lowering_sees
