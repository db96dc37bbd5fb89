use Rattle.marshalling_law.proofs.CallsSpelled.{calls_are_spelled}
use Rattle.marshalling_law.proofs.calls.calls_are_spelled.Goals as goal

pub returns : goal.returns
returns c = calls_are_spelled
