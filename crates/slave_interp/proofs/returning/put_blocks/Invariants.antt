use Rattle.std.proofs.Common.{length}
use Rattle.slave_interp.proofs.ReturnLemmas.{Putting}
use Rattle.slave_interp.proofs.returning.put_blocks.Given as goal

abbrev pub invariant-loop-left : goal.invariant-loop-left
invariant-loop-left l = Putting l.fn.machine l.fn.blocks l.machine l.left

abbrev pub decreases-loop-left : goal.decreases-loop-left
decreases-loop-left l = length l.left
