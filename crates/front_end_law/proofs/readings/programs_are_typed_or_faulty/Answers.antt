use Rattle.front_end_law.proofs.ReadingLemmas.{programs_judged}
use Rattle.front_end_law.proofs.readings.programs_are_typed_or_faulty.Goals as goal

pub returns : goal.returns
returns c = programs_judged
