use Rattle.texts_have_outcomes_law.proofs.Commands.{checks_come}
use Rattle.texts_have_outcomes_law.proofs.laws.checks_come_to_an_outcome.Goals as goal

pub returns : goal.returns
returns c = checks_come
