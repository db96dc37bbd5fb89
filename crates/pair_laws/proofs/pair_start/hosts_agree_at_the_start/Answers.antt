use Rattle.pair_laws.proofs.PairStartHosts.{hosts_agree}
use Rattle.pair_laws.proofs.pair_start.hosts_agree_at_the_start.Goals as goal

pub returns : goal.returns
returns c =
    hosts_agree c.accepted_programs_share_nothing.ensures c.slaves_are_well_formed.ensures c.monitors_are_well_formed.ensures
    c.lowered_code_names_what_the_body_names.ensures
