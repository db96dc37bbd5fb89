use Rattle.marshalling_law.proofs.CallsServed.{inputs_fit}
use Rattle.marshalling_law.proofs.calls.inputs_fit.Goals as goal

pub returns : goal.returns
returns c = inputs_fit
