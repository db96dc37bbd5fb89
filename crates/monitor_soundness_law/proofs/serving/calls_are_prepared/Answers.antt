use Rattle.monitor_soundness_law.proofs.ServingLemmas.{calls_are_prepared}
use Rattle.monitor_soundness_law.proofs.serving.calls_are_prepared.Goals as goal

pub returns : goal.returns
returns c = calls_are_prepared
