use Rattle.pair_laws.proofs.BegunPairsBegun.{monitors_well_formed}
use Rattle.pair_laws.proofs.begun_pairs.begun_monitors_are_well_formed.Goals as goal

pub returns : goal.returns
returns c = monitors_well_formed c.accepted_monitors_are_well_formed.ensures
