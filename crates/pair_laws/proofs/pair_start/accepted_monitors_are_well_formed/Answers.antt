use Rattle.pair_laws.proofs.PairStartHosts.{monitors_well_formed}
use Rattle.pair_laws.proofs.pair_start.accepted_monitors_are_well_formed.Goals as goal

pub returns : goal.returns
returns c = monitors_well_formed c.accepted_programs_share_nothing.ensures c.monitors_are_well_formed.ensures
