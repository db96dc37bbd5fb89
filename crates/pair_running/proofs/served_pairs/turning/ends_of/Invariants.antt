use Rattle.pair_running.specs.ServedPairsTurns.{AreEnds}
use Rattle.pair_running.proofs.served_pairs.turning.ends_of.Given as goal

-- the ends so far
abbrev pub invariant-loop-talk : goal.invariant-loop-talk
invariant-loop-talk l = AreEnds l.yielded l.ends.items
