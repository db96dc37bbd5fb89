use Rattle.std.proofs.Common.{◌≡◌, ◌++◌, drop, map}
use Rattle.std.specs.List.{flat_map}
use Rattle.flow_rules.specs.Findings.{slave_findings}
use Rattle.flow_rules.specs.FlowsView.{view_flows}
use Rattle.flow_rules.specs.Kept.{kept}
use Rattle.flow_rules.specs.Memory.{Knows}
use Rattle.flow_rules.proofs.bodies.add_slave.Given as goal

abbrev pub invariant-loop-f : goal.invariant-loop-f
invariant-loop-f l = record {
  found : l.list.items ++ map kept (flat_map (slave_findings (view_flows l.flows)) (drop l.f-index l.functions))
      ≡ l.fn.list.items ++ map kept (flat_map (slave_findings (view_flows l.flows)) l.flows.sides.now.slave);
  memo : Knows (view_flows l.flows) l.memo;
}
