use Rattle.type_rules.proofs.OperatorLemmas.{subscripts}
use Rattle.type_rules.proofs.laws.subscripts_are_sums.Goals as goal

pub returns : goal.returns
returns c = subscripts
