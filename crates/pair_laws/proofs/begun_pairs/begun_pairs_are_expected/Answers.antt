use Rattle.pair_laws.proofs.BegunPairsBegun.{pairs_expected}
use Rattle.pair_laws.proofs.begun_pairs.begun_pairs_are_expected.Goals as goal

pub returns : goal.returns
returns c = pairs_expected c.accepted_pairs_are_expected.ensures
