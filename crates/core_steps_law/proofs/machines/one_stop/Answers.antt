use Rattle.core_steps_law.proofs.MachinesBodies.{one_stop}
use Rattle.core_steps_law.proofs.machines.one_stop.Goals as goal

pub returns : goal.returns
returns g c = one_stop
