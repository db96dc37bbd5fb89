use Rattle.pair_runner.proofs.Spelled.{replies_are_spelled}
use Rattle.pair_runner.proofs.laws.replies_are_spelled.Goals as goal

pub returns : goal.returns
returns c = replies_are_spelled
