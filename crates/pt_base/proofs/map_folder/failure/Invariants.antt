use Rattle.std.proofs.Common.{◌≡◌, length}
use Rattle.pt_base.specs.Held.{failure_at}
use Rattle.pt_base.proofs.map_folder.failure.Given as goal

abbrev pub invariant-loop-rest : goal.invariant-loop-rest
invariant-loop-rest l = failure_at l.fails l.place ≡ failure_at l.rest l.place

abbrev pub decreases-loop-rest : goal.decreases-loop-rest
decreases-loop-rest l = length l.rest
