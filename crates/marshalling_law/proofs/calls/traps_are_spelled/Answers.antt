use Rattle.marshalling_law.proofs.CallsSpelled.{traps_are_spelled}
use Rattle.marshalling_law.proofs.calls.traps_are_spelled.Goals as goal

pub returns : goal.returns
returns c = traps_are_spelled
