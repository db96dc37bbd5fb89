use Rattle.core_steps_law.proofs.OneRun.{only_the_run_is_seen}
use Rattle.core_steps_law.proofs.only_the_run_is_seen.Goals as goal

pub returns : goal.returns
returns c = only_the_run_is_seen
