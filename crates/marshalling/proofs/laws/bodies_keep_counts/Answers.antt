use Rattle.marshalling.proofs.CountLemmas.{counts_kept}
use Rattle.marshalling.proofs.laws.bodies_keep_counts.Goals as goal

pub returns : goal.returns
returns c = counts_kept
