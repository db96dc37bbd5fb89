use Rattle.runs.proofs.PolicyLaws.{denied}
use Rattle.runs.proofs.denied_runs_stop.Goals as goal

pub returns : goal.returns
returns g c = denied _
