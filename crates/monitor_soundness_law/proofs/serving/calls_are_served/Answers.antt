use Rattle.monitor_soundness_law.proofs.ServingLemmas.{calls_are_served}
use Rattle.monitor_soundness_law.proofs.serving.calls_are_served.Goals as goal

pub returns : goal.returns
returns c = calls_are_served
