use Rattle.std.proofs.Common.{◌≡◌, drop}
use Rattle.flow_rules.specs.FlowsView.{view_flows}
use Rattle.flow_rules.specs.Kept.{first_of, secrets_from}
use Rattle.flow_rules.proofs.secrets.secret_from.Given as goal

abbrev pub invariant-loop-leaf : goal.invariant-loop-leaf
invariant-loop-leaf l =
    first_of (secrets_from (view_flows l.flows) (drop l.leaf-index l.leaves) l.start)
    ≡ first_of (secrets_from (view_flows l.flows) l.fn.leaves l.start)
