use Rattle.std.proofs.Common.{arith}
use Rattle.function_runs.proofs.JoinLemmas.{joined-more}
use Rattle.function_runs.proofs.joining.joined.Goals as goal

pub loop-part-preserved : goal.loop-part-preserved
loop-part-preserved g c = grind (arith, joined-more)
