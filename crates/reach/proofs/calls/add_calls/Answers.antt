use Rattle.std.proofs.Common.{ap, map}
use Rattle.pt_base.proofs.Places.{drop_step_at}
use Rattle.typed_tree.specs.TypedView.{view_typed}
use Rattle.reach.specs.declared.calls.Half.TheVariants.{Monitor, Slave}
use Rattle.reach.specs.CallGraph.{call_edge, is_entered}
use Rattle.reach.specs.Contexts.{expr_callees, test_function}
use Rattle.usages.specs.UsageView.{view_usage}
use Rattle.usages.specs.Usages.{UsageTree}
use Rattle.reach.proofs.WalkLemmas.{chosen_on}
use Rattle.reach.proofs.calls.add_calls.Goals as goal

pub loop-usage-preserved : goal.loop-usage-preserved
loop-usage-preserved c =
    let split = ap (map view_usage) (drop_step_at c.of-list.result.now c.loop-usage.usage-index c.usage-item.result c.loop-usage-test.true c.usage-item.is) in
    record {
      monitor = chosen_on (call_edge c.args.caller) (test_function (is_entered Monitor) (view_typed c.args.t.now)) (λ (u : UsageTree). expr_callees u.value) _ _ (view_usage c.usage-item.result) _ _ _
          split c.in_ok-add_call.ensures c.loop-usage.invariant.monitor;
      slave = chosen_on (call_edge c.args.caller) (test_function (is_entered Slave) (view_typed c.args.t.now)) (λ (u : UsageTree). expr_callees u.value) _ _ (view_usage c.usage-item.result) _ _ _
          split c.in_ok-add_call-2.ensures c.loop-usage.invariant.slave;
    }
