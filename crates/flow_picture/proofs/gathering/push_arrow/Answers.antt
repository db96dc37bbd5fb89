use Rattle.flow_picture.proofs.SameLemmas.{same_after, same_is}
use Rattle.flow_picture.proofs.gathering.push_arrow.Goals as goal

pub returns : goal.returns
returns c = same_after _ _ _ c.in_ok-tidy.ensures (same_is _ _ c.in_ok-push.ensures.items)
