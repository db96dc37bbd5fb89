use Rattle.std.proofs.Common.{ap, map}
use Rattle.pt_base.proofs.Places.{drop_step_at}
use Rattle.reach.specs.Contexts.{expr_callees}
use Rattle.typed_tree.specs.TypedView.{view_typed}
use Rattle.usages.specs.UsageView.{view_usage}
use Rattle.usages.specs.Usages.{UsageTree}
use Rattle.flow_picture.specs.Kept.{result_nodes}
use Rattle.flow_picture.proofs.LoopLemmas.{parts_on}
use Rattle.flow_picture.proofs.uses.push_callees.Goals as goal

pub loop-usage-preserved : goal.loop-usage-preserved
loop-usage-preserved c =
    parts_on (result_nodes (view_typed c.args.t.now)) (λ (u : UsageTree). expr_callees u.value) _ _ (view_usage c.usage-item.result) _ _ _
    (ap (map view_usage) (drop_step_at c.of-list.result.now c.loop-usage.usage-index c.usage-item.result c.loop-usage-test.true c.usage-item.is)) c.in_ok-push_callee.ensures c.loop-usage.invariant
