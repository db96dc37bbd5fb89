use Rattle.texts_have_outcomes_law.proofs.Commands.{splits_come}
use Rattle.texts_have_outcomes_law.proofs.laws.splits_come_to_an_outcome.Goals as goal

pub returns : goal.returns
returns c = splits_come
