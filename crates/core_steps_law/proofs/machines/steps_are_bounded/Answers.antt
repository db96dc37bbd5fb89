use Rattle.core_steps_law.proofs.MachinesBounds.{steps_are_bounded}
use Rattle.core_steps_law.proofs.machines.steps_are_bounded.Goals as goal

pub returns : goal.returns
returns g c = steps_are_bounded
