use Rattle.pair_invariant_law.proofs.SlaveGatesAgreeing.{slave_gates_agree}
use Rattle.pair_invariant_law.proofs.slave_gates.slave_gates_agree.Goals as goal

pub returns : goal.returns
returns c = slave_gates_agree
