use Rattle.slave_runner.proofs.OneOutcome.{what_a_slave_comes_to_is_one}
use Rattle.slave_runner.proofs.one_outcome.what_a_slave_comes_to_is_one.Goals as goal

pub returns : goal.returns
returns c = what_a_slave_comes_to_is_one
