use Rattle.source_meaning.proofs.RunLaws.{stays}
use Rattle.source_meaning.proofs.laws.ended_runs_stay.Goals as goal

pub returns : goal.returns
returns c = stays
