use Rattle.std.proofs.Common.{refl}
use Rattle.flow_rules.proofs.paths.fault_of.Goals as goal

pub returns-clause-told : goal.returns-clause-told
returns-clause-told c = (refl, (refl, c.in_ok-way.ensures.way))
