use Rattle.stages.proofs.Joins.{longer_refused}
use Rattle.stages.proofs.laws.longer_climbs_stop.Goals as goal

pub returns : goal.returns
returns c = longer_refused
