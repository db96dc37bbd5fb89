use Rattle.marshalling_law.proofs.CallsServed.{results_are_numbers}
use Rattle.marshalling_law.proofs.calls.results_are_numbers.Goals as goal

pub returns : goal.returns
returns c = results_are_numbers
