use Rattle.core_steps_law.proofs.MachinesJudging.{judged_runs}
use Rattle.core_steps_law.proofs.machines.judged_runs.Goals as goal

pub returns : goal.returns
returns s c = judged_runs
