use Rattle.policy.proofs.VerdictLemmas.{limits_hold_lem}
use Rattle.policy.proofs.laws.limits_hold.Goals as goal

pub returns : goal.returns
returns c = limits_hold_lem
