use Rattle.std.proofs.Common.{◌≡◌, length}
use Rattle.typed_tree.specs.WellFormed.{params_lead}
use Rattle.boot_rules.proofs.params.params_lead.Given as goal

abbrev pub invariant-loop-rest : goal.invariant-loop-rest
invariant-loop-rest l = params_lead l.params l.vars ≡ params_lead l.rest l.left

abbrev pub decreases-loop-rest : goal.decreases-loop-rest
decreases-loop-rest l = length l.rest
