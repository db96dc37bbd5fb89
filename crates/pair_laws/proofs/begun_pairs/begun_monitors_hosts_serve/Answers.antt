use Rattle.pair_laws.proofs.BegunPairsBegun.{hosts_serve}
use Rattle.pair_laws.proofs.begun_pairs.begun_monitors_hosts_serve.Goals as goal

pub returns : goal.returns
returns c = hosts_serve c.monitors_hosts_serve.ensures
