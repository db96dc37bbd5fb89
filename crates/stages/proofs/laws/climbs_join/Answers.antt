use Rattle.stages.proofs.Joins.{stops_join}
use Rattle.stages.proofs.laws.climbs_join.Goals as goal

pub returns : goal.returns
returns c = stops_join
