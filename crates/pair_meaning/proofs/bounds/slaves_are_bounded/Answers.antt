use Rattle.pair_meaning.proofs.BoundsLongest.{slaves_are_bounded}
use Rattle.pair_meaning.proofs.bounds.slaves_are_bounded.Goals as goal

pub returns : goal.returns
returns d c = slaves_are_bounded
