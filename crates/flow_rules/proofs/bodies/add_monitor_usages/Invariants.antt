use Rattle.std.proofs.Common.{◌≡◌, ◌++◌, drop, map}
use Rattle.std.specs.List.{flat_map}
use Rattle.usages.specs.UsageView.{view_usage}
use Rattle.flow_rules.specs.Findings.{host_in_monitor, monitor_findings}
use Rattle.flow_rules.specs.FlowsView.{view_flows}
use Rattle.flow_rules.specs.Kept.{kept}
use Rattle.flow_rules.proofs.bodies.add_monitor_usages.Given as goal

abbrev pub invariant-loop-usage : goal.invariant-loop-usage
invariant-loop-usage l =
    l.list.items ++ map kept (flat_map (host_in_monitor (view_flows l.flows)) (map view_usage (drop l.usage-index l.usages)))
    ≡ l.fn.list.items ++ map kept (monitor_findings (view_flows l.flows) l.fn.f)
