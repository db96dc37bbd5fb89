use Rattle.pair_invariant_law.proofs.SlaveGatesHosts.{hosts_go_on_fitting}
use Rattle.pair_invariant_law.proofs.slave_gates.hosts_go_on_fitting.Goals as goal

pub returns : goal.returns
returns c = hosts_go_on_fitting
