use Rattle.core_steps_law.proofs.Silence.{silent_runs_agree}
use Rattle.core_steps_law.proofs.silent_runs_agree.Goals as goal

pub returns : goal.returns
returns c = silent_runs_agree
