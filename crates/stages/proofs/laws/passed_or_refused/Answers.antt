use Rattle.stages.proofs.OneRefusal.{passed_unrefused}
use Rattle.stages.proofs.laws.passed_or_refused.Goals as goal

pub returns : goal.returns
returns c = passed_unrefused
