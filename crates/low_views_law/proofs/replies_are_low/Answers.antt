use Rattle.low_views_law.proofs.Replies.{replies_are_low}
use Rattle.low_views_law.proofs.replies_are_low.Goals as goal

pub returns : goal.returns
returns c = replies_are_low
