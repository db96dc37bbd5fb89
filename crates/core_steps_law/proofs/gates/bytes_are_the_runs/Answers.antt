use Rattle.core_steps_law.proofs.GatesWrittenBytes.{bytes_are}
use Rattle.core_steps_law.proofs.gates.bytes_are_the_runs.Goals as goal

pub returns : goal.returns
returns c = bytes_are c.silent_runs_agree.ensures c.only_the_run_is_seen.ensures
