use Rattle.pair_running.proofs.ServedPairsPlaces.{Seeks}
use Rattle.pair_running.proofs.served_pairs.turning.place_of.Given as goal

-- so many that run were passed, and the one that is sought stands behind
abbrev pub invariant-loop-place : goal.invariant-loop-place
invariant-loop-place l = Seeks l.talks l.fn.passed l.place l.left
