use Rattle.pair_texts.proofs.OneOutcome.{outcome_is_one}
use Rattle.pair_texts.proofs.laws.texts_have_one_outcome.Goals as goal

pub returns : goal.returns
returns c = outcome_is_one
