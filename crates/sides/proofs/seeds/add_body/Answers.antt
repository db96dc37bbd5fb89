use Rattle.std.proofs.Common.{ap, map}
use Rattle.pt_base.proofs.Places.{drop_step_at}
use Rattle.typed_tree.specs.TypedView.{view_typed}
use Rattle.sides.specs.Seeds.{usage_sealed}
use Rattle.usages.specs.UsageView.{view_usage}
use Rattle.usages.specs.Usages.{UsageTree}
use Rattle.reach.proofs.WalkLemmas.{item_on}
use Rattle.sides.proofs.seeds.add_body.Goals as goal

pub loop-usage-preserved : goal.loop-usage-preserved
loop-usage-preserved c = record {
  table = item_on (λ (u : UsageTree). usage_sealed (view_typed c.args.t.now) c.args.f u.how u.value) _ _ (view_usage c.usage-item.result) _ _ _
      (ap (map view_usage) (drop_step_at c.of-list.result.now c.loop-usage.usage-index c.usage-item.result c.loop-usage-test.true c.usage-item.is)) (c.in_ok-add_usage.ensures.table c.args.f c.scope-scope.ensures)
      c.loop-usage.invariant.table;
  seen = c.in_ok-add_usage.ensures.seen;
}
