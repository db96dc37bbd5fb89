use Rattle.core_steps_law.proofs.MachinesJudging.{refused_runs_are_expected}
use Rattle.core_steps_law.proofs.machines.refused_runs_are_expected.Goals as goal

pub returns : goal.returns
returns s c = refused_runs_are_expected
