use Rattle.pair_laws.proofs.PairStartHosts.{boots_well_formed}
use Rattle.pair_laws.proofs.pair_start.boots_are_well_formed.Goals as goal

pub returns : goal.returns
returns c =
    boots_well_formed c.accepted_programs_share_nothing.ensures c.slaves_are_well_formed.ensures c.monitors_are_well_formed.ensures
    c.lowered_code_names_what_the_body_names.ensures c.boots_add_hosts.ensures
