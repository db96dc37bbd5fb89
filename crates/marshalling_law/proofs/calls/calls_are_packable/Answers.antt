use Rattle.marshalling_law.proofs.CallsPackable.{calls_are_packable}
use Rattle.marshalling_law.proofs.calls.calls_are_packable.Goals as goal

pub returns : goal.returns
returns c = calls_are_packable
