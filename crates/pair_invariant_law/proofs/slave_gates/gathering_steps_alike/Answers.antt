use Rattle.pair_invariant_law.proofs.SlaveGatesGathering.{gathering_steps_alike}
use Rattle.pair_invariant_law.proofs.slave_gates.gathering_steps_alike.Goals as goal

pub returns : goal.returns
returns c = gathering_steps_alike
