use Rattle.type_rules.proofs.SilenceLemmas.{conversions}
use Rattle.type_rules.proofs.laws.conversions_answer.Goals as goal

pub returns : goal.returns
returns c = conversions
