use Rattle.pair_invariant_law.proofs.MonitorGatesGates.{bodies_gates_agree}
use Rattle.pair_invariant_law.proofs.monitor_gates.bodies_gates_agree.Goals as goal

pub returns : goal.returns
returns g c = bodies_gates_agree
