use Rattle.std.proofs.Common.{drop}
use Rattle.pair_running.specs.ServedPairsBeginning.{AreOfBytes}
use Rattle.pair_running.proofs.served_pairs.beginning.of_bytes.Given as goal

abbrev pub invariant-loop-input : goal.invariant-loop-input
invariant-loop-input l = AreOfBytes (drop l.input-index l.all) → AreOfBytes l.fn.all
