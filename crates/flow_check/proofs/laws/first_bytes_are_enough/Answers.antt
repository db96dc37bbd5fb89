use Rattle.flow_check.proofs.OneOutcome.{cut_whole}
use Rattle.flow_check.proofs.laws.first_bytes_are_enough.Goals as goal

pub returns : goal.returns
returns c = cut_whole
