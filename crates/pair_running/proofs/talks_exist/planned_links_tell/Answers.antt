use Rattle.pair_running.proofs.TalksExistTelling.{links_tell}
use Rattle.pair_running.proofs.talks_exist.planned_links_tell.Goals as goal

pub returns : goal.returns
returns c = links_tell
