use Rattle.serving_rules.proofs.PermissionLemmas.{permissions_decide}
use Rattle.serving_rules.proofs.laws.permissions_decide.Goals as goal

pub returns : goal.returns
returns c = permissions_decide
