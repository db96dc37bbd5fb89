use Rattle.std.proofs.Common.{◌≡◌, drop}
use Rattle.flow_rules.specs.FlowsView.{view_flows}
use Rattle.flow_rules.specs.Kept.{first_of}
use Rattle.flow_rules.specs.Secrets.{secret_slots}
use Rattle.flow_rules.proofs.secrets.first_secret.Given as goal

abbrev pub invariant-loop-start : goal.invariant-loop-start
invariant-loop-start l =
    first_of (secret_slots (view_flows l.flows) (drop l.start-index l.starts) l.leaves)
    ≡ first_of (secret_slots (view_flows l.flows) l.fn.starts l.leaves)
