use Rattle.pair_cases.proofs.Beginning.{hosts_serve, monitor_is_well_formed}
use Rattle.pair_cases.proofs.hubs.begin.Goals as goal

pub new-requires-clause-well_formed : goal.new-requires-clause-well_formed
new-requires-clause-well_formed c = monitor_is_well_formed c.begun_monitors_are_well_formed.ensures c.args.pair c.args.turns c.requires.0 c.requires.1

pub new-requires-clause-hosts : goal.new-requires-clause-hosts
new-requires-clause-hosts c = hosts_serve c.begun_monitors_hosts_serve.ensures c.args.pair c.args.turns c.requires.0 c.requires.1
