use Rattle.pair_running.proofs.TalksExistLinks.{honest_links}
use Rattle.pair_running.proofs.talks_exist.begun_pairs_have_honest_links.Goals as goal

pub returns : goal.returns
returns c = honest_links c.begun_pairs_have_talks.ensures c.texts_have_one_outcome.ensures
