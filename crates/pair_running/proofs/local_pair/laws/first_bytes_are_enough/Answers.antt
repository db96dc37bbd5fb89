use Rattle.pair_running.proofs.LocalPairCuts.{cut_whole}
use Rattle.pair_running.proofs.local_pair.laws.first_bytes_are_enough.Goals as goal

pub returns : goal.returns
returns c = cut_whole
