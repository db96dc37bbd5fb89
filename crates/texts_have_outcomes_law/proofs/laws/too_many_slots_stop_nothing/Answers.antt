use Rattle.texts_have_outcomes_law.proofs.NoOutcomes.{nothing_stops}
use Rattle.texts_have_outcomes_law.proofs.laws.too_many_slots_stop_nothing.Goals as goal

pub returns : goal.returns
returns c = nothing_stops
