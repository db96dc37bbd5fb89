use Rattle.source_meaning.proofs.RunLaws.{all_used}
use Rattle.source_meaning.proofs.laws.spent_runs_use_all.Goals as goal

pub returns : goal.returns
returns c = all_used
