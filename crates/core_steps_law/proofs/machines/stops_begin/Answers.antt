use Rattle.core_steps_law.proofs.MachinesBodies.{stops_begin}
use Rattle.core_steps_law.proofs.machines.stops_begin.Goals as goal

pub returns : goal.returns
returns g c = stops_begin
