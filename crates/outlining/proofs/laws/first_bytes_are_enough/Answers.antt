use Rattle.outlining.proofs.Cuts.{cut_whole}
use Rattle.outlining.proofs.laws.first_bytes_are_enough.Goals as goal

pub returns : goal.returns
returns c = cut_whole
