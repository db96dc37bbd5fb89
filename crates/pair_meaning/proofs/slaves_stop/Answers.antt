use Rattle.pair_meaning.proofs.Stops.{slaves_stop}
use Rattle.pair_meaning.proofs.slaves_stop.Goals as goal

pub returns : goal.returns
returns c = slaves_stop
