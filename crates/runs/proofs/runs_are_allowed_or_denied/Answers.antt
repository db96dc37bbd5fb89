use Rattle.runs.proofs.PolicyLaws.{either}
use Rattle.runs.proofs.runs_are_allowed_or_denied.Goals as goal

pub returns : goal.returns
returns g c = either _
