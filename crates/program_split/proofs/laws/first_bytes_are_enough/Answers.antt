use Rattle.program_split.proofs.Cuts.{cut_whole}
use Rattle.program_split.proofs.laws.first_bytes_are_enough.Goals as goal

pub returns : goal.returns
returns c = cut_whole
