use Rattle.pair_invariant_law.proofs.MonitorGatesModels.{bodies_calls_fit}
use Rattle.pair_invariant_law.proofs.monitor_gates.bodies_calls_fit.Goals as goal

pub returns : goal.returns
returns c = bodies_calls_fit
