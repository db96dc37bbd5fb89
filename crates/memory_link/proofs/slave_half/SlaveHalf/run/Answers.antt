use Rattle.std.proofs.Common.{refl}
use Rattle.memory_link.proofs.Halves.{runs_so}
use Rattle.memory_link.proofs.slave_half.SlaveHalf.run.Goals as goal

pub returns : goal.returns
returns c = runs_so _ _ _ _ _ c.in_ok-said.ensures refl c.in_ok-put.ensures
