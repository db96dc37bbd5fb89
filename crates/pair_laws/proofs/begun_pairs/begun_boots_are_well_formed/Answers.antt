use Rattle.pair_laws.proofs.BegunPairsBegun.{boots_well_formed}
use Rattle.pair_laws.proofs.begun_pairs.begun_boots_are_well_formed.Goals as goal

pub returns : goal.returns
returns c = boots_well_formed c.boots_are_well_formed.ensures
