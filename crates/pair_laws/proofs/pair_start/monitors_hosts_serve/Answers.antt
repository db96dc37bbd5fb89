use Rattle.pair_laws.proofs.PairStartHosts.{hosts_serve}
use Rattle.pair_laws.proofs.pair_start.monitors_hosts_serve.Goals as goal

pub returns : goal.returns
returns c =
    hosts_serve c.accepted_programs_share_nothing.ensures c.slaves_are_well_formed.ensures c.monitors_are_well_formed.ensures
    c.lowered_code_names_what_the_body_names.ensures
