use Rattle.pair_running.proofs.GeneratedPairRuns.{told_once}
use Rattle.pair_running.proofs.generated_pair.laws.generated_texts_have_one_outcome.Goals as goal

pub returns : goal.returns
returns c = told_once
