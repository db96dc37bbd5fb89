use Rattle.texts_have_outcomes_law.proofs.Judged.{judged}
use Rattle.texts_have_outcomes_law.proofs.laws.programs_are_judged.Goals as goal

pub returns : goal.returns
returns c = judged
