use Rattle.pair_explaining.proofs.Cuts.{enough, holds}
use Rattle.pair_explaining.proofs.laws.first_bytes_are_enough.Goals as goal

pub returns-clause-blocks : goal.returns-clause-blocks
returns-clause-blocks c = enough

pub returns-clause-held : goal.returns-clause-held
returns-clause-held c = holds
