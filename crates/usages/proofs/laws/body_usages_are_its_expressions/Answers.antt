use Rattle.usages.proofs.LawsListed.{usages_listed}
use Rattle.usages.proofs.laws.body_usages_are_its_expressions.Goals as goal

pub returns : goal.returns
returns c = usages_listed
