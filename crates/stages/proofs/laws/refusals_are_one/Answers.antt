use Rattle.stages.proofs.OneRefusal.{one_refusal}
use Rattle.stages.proofs.laws.refusals_are_one.Goals as goal

pub returns : goal.returns
returns c = one_refusal
