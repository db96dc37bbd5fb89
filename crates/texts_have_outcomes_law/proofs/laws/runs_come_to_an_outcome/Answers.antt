use Rattle.texts_have_outcomes_law.proofs.Commands.{runs_come}
use Rattle.texts_have_outcomes_law.proofs.laws.runs_come_to_an_outcome.Goals as goal

pub returns : goal.returns
returns c = runs_come
