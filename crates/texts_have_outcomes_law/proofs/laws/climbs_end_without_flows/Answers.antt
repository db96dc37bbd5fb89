use Rattle.texts_have_outcomes_law.proofs.Climbs.{climbs_end_without}
use Rattle.texts_have_outcomes_law.proofs.laws.climbs_end_without_flows.Goals as goal

pub returns : goal.returns
returns c = climbs_end_without
