use Rattle.marshalling_law.proofs.CallsSpelled.{parks_are_spelled}
use Rattle.marshalling_law.proofs.calls.parks_are_spelled.Goals as goal

pub returns : goal.returns
returns c = parks_are_spelled
