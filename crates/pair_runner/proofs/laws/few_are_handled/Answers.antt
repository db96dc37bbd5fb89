use Rattle.pair_runner.proofs.Counting.{few_are_handled}
use Rattle.pair_runner.proofs.laws.few_are_handled.Goals as goal

pub returns : goal.returns
returns c = few_are_handled
