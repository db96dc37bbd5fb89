use Rattle.std.proofs.Common.{◌++◌, ap, map}
use Rattle.std.specs.List.{flat_map}
use Rattle.flow_rules.specs.Findings.{slave_findings}
use Rattle.flow_rules.specs.FlowsView.{view_flows}
use Rattle.flow_rules.specs.Kept.{kept}
use Rattle.flow_rules.proofs.bodies.add_slave.Goals as goal

pub loop-f-init : goal.loop-f-init
loop-f-init c = record {
  found = ap (λ fs. c.args.list.now.items ++ map kept (flat_map (slave_findings (view_flows c.args.flows.now)) fs)) c.as_slice-functions.ensures;
  memo = c.none-memo.ensures (view_flows c.args.flows.now);
}
