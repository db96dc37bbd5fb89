use Rattle.core_steps_law.proofs.MachinesBounds.{runs_are_seen}
use Rattle.core_steps_law.proofs.machines.runs_are_seen.Goals as goal

pub returns : goal.returns
returns c = runs_are_seen
