use Rattle.slave_soundness_law.proofs.Stepping.{calls_are_ready}
use Rattle.slave_soundness_law.proofs.calls_are_ready.Goals as goal

pub returns : goal.returns
returns c = calls_are_ready
