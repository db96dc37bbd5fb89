use Rattle.pair_running.proofs.HonestTalksTalks.{honest_talks}
use Rattle.pair_running.proofs.honest_talks.honest_talks_are_expected.Goals as goal

pub returns : goal.returns
returns c = honest_talks c.what_is_said_grows.ensures
