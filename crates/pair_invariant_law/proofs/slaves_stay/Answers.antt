use Rattle.pair_invariant_law.proofs.Staying.{slaves_stay}
use Rattle.pair_invariant_law.proofs.slaves_stay.Goals as goal

pub returns : goal.returns
returns c = slaves_stay
