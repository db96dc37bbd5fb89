use Rattle.std.specs.Prelude.{replicate}
use Rattle.pair_protocol.specs.Pair.{slaves}
use Rattle.pair_meaning.specs.LinkChoosing.{AreTaken}
use Rattle.pair_running.proofs.served_pairs.turning.reached.Given as goal

-- as many answers passed on
abbrev pub invariant-loop-passed : goal.invariant-loop-passed
invariant-loop-passed g l = AreTaken (replicate l.passed slaves) (g.C.Chooser.answers l.fn.chooser) (g.C.Chooser.answers l.chooser)
