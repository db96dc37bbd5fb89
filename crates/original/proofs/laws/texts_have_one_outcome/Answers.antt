use Rattle.original.proofs.OneOutcome.{outcome_is_one}
use Rattle.original.proofs.laws.texts_have_one_outcome.Goals as goal

pub returns : goal.returns
returns c = outcome_is_one
