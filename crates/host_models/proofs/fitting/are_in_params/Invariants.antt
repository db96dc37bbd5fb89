use Rattle.std.proofs.Common.{◌≡◌, length}
use Rattle.host_models.specs.Fitting.{are_in_params}
use Rattle.host_models.proofs.fitting.are_in_params.Given as goal

abbrev pub invariant-loop-rest : goal.invariant-loop-rest
invariant-loop-rest l = are_in_params l.params l.args ≡ are_in_params l.rest l.left

abbrev pub decreases-loop-rest : goal.decreases-loop-rest
decreases-loop-rest l = length l.rest
