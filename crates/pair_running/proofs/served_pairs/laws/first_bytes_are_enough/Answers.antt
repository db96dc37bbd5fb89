use Rattle.pair_running.proofs.ServedPairsCuts.{cut_whole}
use Rattle.pair_running.proofs.served_pairs.laws.first_bytes_are_enough.Goals as goal

pub returns : goal.returns
returns c = cut_whole
