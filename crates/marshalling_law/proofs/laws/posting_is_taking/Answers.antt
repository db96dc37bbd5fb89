use Rattle.marshalling_law.proofs.PostingLemmas.{posting_takes}
use Rattle.marshalling_law.proofs.laws.posting_is_taking.Goals as goal

pub returns : goal.returns
returns c = posting_takes
