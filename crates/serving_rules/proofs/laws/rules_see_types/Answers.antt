use Rattle.serving_rules.proofs.OpenedLemmas.{rules_see_types}
use Rattle.serving_rules.proofs.laws.rules_see_types.Goals as goal

pub returns : goal.returns
returns c = rules_see_types
