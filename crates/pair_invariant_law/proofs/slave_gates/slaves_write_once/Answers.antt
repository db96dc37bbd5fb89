use Rattle.pair_invariant_law.proofs.SlaveGatesGathering.{slaves_write_once}
use Rattle.pair_invariant_law.proofs.slave_gates.slaves_write_once.Goals as goal

pub returns : goal.returns
returns c = slaves_write_once
