use Rattle.core_steps_law.proofs.MachinesBounds.{runs_are_bounded}
use Rattle.core_steps_law.proofs.machines.runs_are_bounded.Goals as goal

pub returns : goal.returns
returns g c = runs_are_bounded
