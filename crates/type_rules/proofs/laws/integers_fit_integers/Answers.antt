use Rattle.type_rules.proofs.ConversionLemmas.{integers}
use Rattle.type_rules.proofs.laws.integers_fit_integers.Goals as goal

pub returns : goal.returns
returns c = integers
