use Rattle.marshalling_law.proofs.CallsSpelled.{exits_are_spelled}
use Rattle.marshalling_law.proofs.calls.exits_are_spelled.Goals as goal

pub returns : goal.returns
returns c = exits_are_spelled
