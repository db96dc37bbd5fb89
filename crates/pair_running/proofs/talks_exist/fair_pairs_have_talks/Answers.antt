use Rattle.pair_running.proofs.TalksExistServing.{fair_talks}
use Rattle.pair_running.proofs.talks_exist.fair_pairs_have_talks.Goals as goal

pub returns : goal.returns
returns c = fair_talks c.awaited_replies_are_spelled.ensures c.saying_is_honest.ensures c.what_is_said_grows.ensures
