use Rattle.flow_rules.proofs.FindingLemmas.{two_kept}
use Rattle.flow_rules.proofs.bodies.add_slave_function.Goals as goal

pub returns-clause-found : goal.returns-clause-found
returns-clause-found c = two_kept c.args.list.now.items _ _ _ _ c.in_ok-add_slave_usages.ensures.found c.in_ok-add_variables.ensures
