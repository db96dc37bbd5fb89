use Rattle.core_steps_law.proofs.MachinesJudging.{folds_are_expected}
use Rattle.core_steps_law.proofs.machines.folds_are_expected.Goals as goal

pub returns : goal.returns
returns s c = folds_are_expected
