use Rattle.pair_running.proofs.GeneratedPairRuns.{runs_told}
use Rattle.pair_running.proofs.generated_pair.laws.generated_runs_are_told.Goals as goal

pub returns : goal.returns
returns c = runs_told
