use Rattle.core_steps_law.proofs.MachinesBodies.{bodies_are_steps}
use Rattle.core_steps_law.proofs.machines.bodies_are_steps.Goals as goal

pub returns : goal.returns
returns c = bodies_are_steps
