use Rattle.pair_running.proofs.LocalPairOneOutcome.{outcome_is_one}
use Rattle.pair_running.proofs.local_pair.laws.texts_have_one_outcome.Goals as goal

pub returns : goal.returns
returns c = outcome_is_one
