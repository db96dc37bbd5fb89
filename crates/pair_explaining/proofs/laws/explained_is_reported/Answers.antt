use Rattle.pair_explaining.proofs.Reports.{reported}
use Rattle.pair_explaining.proofs.laws.explained_is_reported.Goals as goal

pub returns : goal.returns
returns c = reported
