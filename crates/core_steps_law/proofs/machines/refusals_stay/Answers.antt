use Rattle.core_steps_law.proofs.MachinesJudging.{refusals_stay}
use Rattle.core_steps_law.proofs.machines.refusals_stay.Goals as goal

pub returns : goal.returns
returns s c = refusals_stay
