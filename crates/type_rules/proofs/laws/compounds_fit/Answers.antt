use Rattle.type_rules.proofs.ConversionLemmas.{compounds}
use Rattle.type_rules.proofs.laws.compounds_fit.Goals as goal

pub returns : goal.returns
returns c = compounds
