use Rattle.std.proofs.Common.{◌≡◌}
use Rattle.pair_running.proofs.ServedPairsBeginning.{MadeSoFar}
use Rattle.pair_running.proofs.served_pairs.beginning.talks_of.Given as goal

-- the talks of the inputs so far
abbrev pub invariant-loop-input : goal.invariant-loop-input
invariant-loop-input l = record {
  made : MadeSoFar l.shared l.turns l.input-index l.all l.talks.items;
  number : l.number ≡ l.input-index;
}
