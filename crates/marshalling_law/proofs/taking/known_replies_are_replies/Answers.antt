use Rattle.marshalling_law.proofs.TakingKnown.{known_replies_are_replies}
use Rattle.marshalling_law.proofs.taking.known_replies_are_replies.Goals as goal

pub returns : goal.returns
returns c = known_replies_are_replies
