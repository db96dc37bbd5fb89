use Rattle.core_steps_law.proofs.MachinesRooms.{steps_use_room}
use Rattle.core_steps_law.proofs.machines.steps_use_room.Goals as goal

pub returns : goal.returns
returns g c = steps_use_room
