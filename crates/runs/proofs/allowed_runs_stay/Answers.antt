use Rattle.runs.proofs.PolicyLaws.{allowed}
use Rattle.runs.proofs.allowed_runs_stay.Goals as goal

pub returns : goal.returns
returns g c = allowed _
