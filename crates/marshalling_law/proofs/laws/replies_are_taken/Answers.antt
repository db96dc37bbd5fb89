use Rattle.marshalling_law.proofs.TakenReplyLemmas.{replies_are_taken}
use Rattle.marshalling_law.proofs.laws.replies_are_taken.Goals as goal

pub returns : goal.returns
returns c = replies_are_taken
