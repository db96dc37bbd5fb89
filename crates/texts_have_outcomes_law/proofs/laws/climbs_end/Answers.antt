use Rattle.texts_have_outcomes_law.proofs.Climbs.{climbs_end}
use Rattle.texts_have_outcomes_law.proofs.laws.climbs_end.Goals as goal

pub returns : goal.returns
returns c = climbs_end
