use Rattle.core_steps_law.proofs.MachinesJudging.{runs_are_judged}
use Rattle.core_steps_law.proofs.machines.runs_are_judged.Goals as goal

pub returns : goal.returns
returns s c = runs_are_judged
