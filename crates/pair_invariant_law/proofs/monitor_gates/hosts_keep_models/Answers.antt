use Rattle.pair_invariant_law.proofs.MonitorGatesModels.{hosts_keep_models}
use Rattle.pair_invariant_law.proofs.monitor_gates.hosts_keep_models.Goals as goal

pub returns : goal.returns
returns c = hosts_keep_models
