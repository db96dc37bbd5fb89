use Rattle.std.proofs.Common.{refl}
use Rattle.memory_link.proofs.Halves.{steps_once}
use Rattle.memory_link.proofs.slave_half.SlaveHalf.step.Goals as goal

pub returns : goal.returns
returns c = steps_once _ _ _ c.in_ok-said.ensures refl c.in_ok-put.ensures
