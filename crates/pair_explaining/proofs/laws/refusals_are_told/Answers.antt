use Rattle.pair_explaining.proofs.Told.{told}
use Rattle.pair_explaining.proofs.laws.refusals_are_told.Goals as goal

pub returns : goal.returns
returns c = told
