use Rattle.marshalling_law.proofs.TakingLemmas.{taken_replies_fit}
use Rattle.marshalling_law.proofs.taking.taken_replies_fit.Goals as goal

pub returns : goal.returns
returns c = taken_replies_fit
