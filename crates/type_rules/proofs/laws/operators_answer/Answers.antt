use Rattle.type_rules.proofs.ConversionLemmas.{operators}
use Rattle.type_rules.proofs.laws.operators_answer.Goals as goal

pub returns : goal.returns
returns c = operators
