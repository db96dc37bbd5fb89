use Rattle.pair_running.proofs.ServedPairsOneOutcome.{outcome_is_one}
use Rattle.pair_running.proofs.served_pairs.laws.texts_have_one_outcome.Goals as goal

pub returns : goal.returns
returns c = outcome_is_one
