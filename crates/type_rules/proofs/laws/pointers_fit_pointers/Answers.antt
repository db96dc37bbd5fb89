use Rattle.type_rules.proofs.ConversionLemmas.{points}
use Rattle.type_rules.proofs.laws.pointers_fit_pointers.Goals as goal

pub returns : goal.returns
returns c = points
