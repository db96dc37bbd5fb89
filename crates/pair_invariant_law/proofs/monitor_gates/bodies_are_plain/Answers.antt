use Rattle.pair_invariant_law.proofs.MonitorGatesPlain.{bodies_are_plain}
use Rattle.pair_invariant_law.proofs.monitor_gates.bodies_are_plain.Goals as goal

pub returns : goal.returns
returns c = bodies_are_plain
