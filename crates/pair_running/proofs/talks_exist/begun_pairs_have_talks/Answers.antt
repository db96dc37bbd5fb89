use Rattle.pair_running.proofs.TalksExistBegun.{begun_talks}
use Rattle.pair_running.proofs.talks_exist.begun_pairs_have_talks.Goals as goal

pub returns : goal.returns
returns c = begun_talks c.begun_boots_are_well_formed.ensures c.begun_pairs_are_fair.ensures c.fair_pairs_have_talks.ensures
