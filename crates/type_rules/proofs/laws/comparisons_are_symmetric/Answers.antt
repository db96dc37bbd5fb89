use Rattle.type_rules.proofs.OperatorLemmas.{symmetric}
use Rattle.type_rules.proofs.laws.comparisons_are_symmetric.Goals as goal

pub returns : goal.returns
returns c = symmetric
