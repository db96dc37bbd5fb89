use Rattle.pair_running.proofs.TalksExistHonest.{saying}
use Rattle.pair_running.proofs.talks_exist.saying_is_honest.Goals as goal

pub returns : goal.returns
returns c = saying c.what_is_said_grows.ensures
