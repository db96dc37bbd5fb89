-- A table for each half tells the globals that its code names.
use Rattle.flow_rules.specs.FlowsView.{view_flows}
use Rattle.flow_rules.proofs.SharedLemmas.{shared_told}
use Rattle.flow_rules.proofs.object_rules.add_shared.Goals as goal

pub returns : goal.returns
returns c =
    shared_told (view_flows c.args.flows.now) _ _ _ _ _ _ _ c.args.list.now.items _ c.as_slice-of_slave.ensures c.as_slice-of_monitor.ensures c.in_ok-slave.ensures c.in_ok-monitor.ensures
    c.as_slice-in_slave.ensures.value c.as_slice-in_monitor.ensures.value c.as_slice-globals.ensures c.in_ok-add_shared_in.ensures
