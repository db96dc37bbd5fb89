use Rattle.std.proofs.Common.{◌≡◌, ◌++◌, drop, map}
use Rattle.std.specs.List.{flat_map}
use Rattle.usages.specs.UsageView.{view_usage}
use Rattle.usages.specs.Usages.{usages_in}
use Rattle.typed_tree.specs.TypedView.{view_typed}
use Rattle.flow_rules.specs.Findings.{usage_findings}
use Rattle.flow_rules.specs.FlowsView.{view_flows}
use Rattle.flow_rules.specs.Kept.{kept}
use Rattle.flow_rules.specs.Memory.{Knows}
use Rattle.flow_rules.proofs.bodies.add_slave_usages.Given as goal

abbrev pub invariant-loop-usage : goal.invariant-loop-usage
invariant-loop-usage l = record {
  found : l.list.items ++ map kept (flat_map (usage_findings (view_flows l.flows) l.f) (map view_usage (drop l.usage-index l.usages)))
      ≡ l.fn.list.items ++ map kept (flat_map (usage_findings (view_flows l.flows) l.fn.f) (usages_in (view_typed l.flows.t.now) l.fn.f));
  memo : Knows (view_flows l.flows) l.memo;
}
