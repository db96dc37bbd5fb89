use Rattle.flow_check.proofs.OneOutcome.{outcome_is_one}
use Rattle.flow_check.proofs.laws.texts_have_one_outcome.Goals as goal

pub returns : goal.returns
returns c = outcome_is_one
