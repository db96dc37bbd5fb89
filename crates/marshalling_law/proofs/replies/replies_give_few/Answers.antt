use Rattle.marshalling_law.proofs.RepliesFew.{replies_give_few}
use Rattle.marshalling_law.proofs.replies.replies_give_few.Goals as goal

pub returns : goal.returns
returns c = replies_give_few
