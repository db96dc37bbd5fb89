use Rattle.flow_rules.proofs.FlowLemmas.{own}
use Rattle.flow_rules.proofs.laws.flows_are_own.Goals as goal

pub returns : goal.returns
returns c = own
