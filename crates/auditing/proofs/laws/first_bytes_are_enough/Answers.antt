use Rattle.auditing.proofs.Cuts.{cut_whole}
use Rattle.auditing.proofs.laws.first_bytes_are_enough.Goals as goal

pub returns : goal.returns
returns c = cut_whole
