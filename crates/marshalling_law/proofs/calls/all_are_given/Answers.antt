use Rattle.marshalling_law.proofs.CallsPackable.{all_are_given}
use Rattle.marshalling_law.proofs.calls.all_are_given.Goals as goal

pub returns : goal.returns
returns c = all_are_given
