use Rattle.usages.proofs.LawsStanding.{outermost_stand}
use Rattle.usages.proofs.laws.outermost_expressions_stand.Goals as goal

pub returns : goal.returns
returns c = outermost_stand
