use Rattle.pair_running.proofs.TalksExistAwaited.{awaited_replies}
use Rattle.pair_running.proofs.talks_exist.awaited_replies_are_spelled.Goals as goal

pub returns : goal.returns
returns c = awaited_replies c.reached_slaves_are_in_format.ensures
