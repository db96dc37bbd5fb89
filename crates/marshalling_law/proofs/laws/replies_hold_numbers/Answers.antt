use Rattle.marshalling_law.proofs.PostingLemmas.{replies_hold_numbers}
use Rattle.marshalling_law.proofs.laws.replies_hold_numbers.Goals as goal

pub returns : goal.returns
returns c = replies_hold_numbers
