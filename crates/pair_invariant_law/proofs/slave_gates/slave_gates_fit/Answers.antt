use Rattle.pair_invariant_law.proofs.SlaveGatesFitting.{slave_gates_fit}
use Rattle.pair_invariant_law.proofs.slave_gates.slave_gates_fit.Goals as goal

pub returns : goal.returns
returns c = slave_gates_fit
