use Rattle.marshalling_law.proofs.RepliesFew.{postings_give_few}
use Rattle.marshalling_law.proofs.replies.postings_give_few.Goals as goal

pub returns : goal.returns
returns c = postings_give_few
