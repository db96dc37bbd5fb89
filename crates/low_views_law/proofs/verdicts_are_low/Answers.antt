use Rattle.low_views_law.proofs.Replies.{verdicts_are_low}
use Rattle.low_views_law.proofs.verdicts_are_low.Goals as goal

pub returns : goal.returns
returns c = verdicts_are_low
