use Rattle.pair_explaining.proofs.Reports.{passes}
use Rattle.pair_explaining.proofs.laws.held_passes.Goals as goal

pub returns : goal.returns
returns c = passes
