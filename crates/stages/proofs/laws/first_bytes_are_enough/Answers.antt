use Rattle.stages.proofs.Cuts.{first_bytes}
use Rattle.stages.proofs.laws.first_bytes_are_enough.Goals as goal

pub returns : goal.returns
returns c = first_bytes
