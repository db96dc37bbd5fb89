use Rattle.marshalling_law.proofs.CallsServed.{bodies_are_served}
use Rattle.marshalling_law.proofs.calls.bodies_are_served.Goals as goal

pub returns : goal.returns
returns c = bodies_are_served
