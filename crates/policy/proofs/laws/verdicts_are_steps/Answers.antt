use Rattle.policy.proofs.VerdictLemmas.{verdicts_are_steps_lem}
use Rattle.policy.proofs.laws.verdicts_are_steps.Goals as goal

pub returns : goal.returns
returns c = verdicts_are_steps_lem
