use Rattle.pair_invariant_law.proofs.SlaveGatesOnce.{steps_call_once}
use Rattle.pair_invariant_law.proofs.slave_gates.steps_call_once.Goals as goal

pub returns : goal.returns
returns g c = steps_call_once
