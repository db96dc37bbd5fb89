use Rattle.type_rules.proofs.ConversionLemmas.{arms}
use Rattle.type_rules.proofs.laws.arms_fit_their_choice.Goals as goal

pub returns : goal.returns
returns c = arms
