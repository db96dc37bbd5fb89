use Rattle.marshalling_law.proofs.RepliesToldLemmas.{replies_by_what_is_told}
use Rattle.marshalling_law.proofs.replies.replies_by_what_is_told.Goals as goal

pub returns : goal.returns
returns c = replies_by_what_is_told
