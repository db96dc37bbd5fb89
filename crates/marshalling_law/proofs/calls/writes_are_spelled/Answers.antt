use Rattle.marshalling_law.proofs.CallsWritten.{writes_are_spelled}
use Rattle.marshalling_law.proofs.calls.writes_are_spelled.Goals as goal

pub returns : goal.returns
returns c = writes_are_spelled
