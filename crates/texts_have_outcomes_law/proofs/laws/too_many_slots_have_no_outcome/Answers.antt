use Rattle.texts_have_outcomes_law.proofs.NoOutcomes.{none_come}
use Rattle.texts_have_outcomes_law.proofs.laws.too_many_slots_have_no_outcome.Goals as goal

pub returns : goal.returns
returns c = none_come
