use Rattle.std.proofs.Common.{◌≡◌, drop, map}
use Rattle.std.specs.List.{flat_map}
use Rattle.typed_tree.specs.TypedView.{view_typed}
use Rattle.sides.specs.Outs.{Remembers}
use Rattle.sides.specs.Seeds.{sealed_in, usage_sealed}
use Rattle.reach.specs.Tables.{set_all}
use Rattle.usages.specs.UsageView.{view_usage}
use Rattle.sides.proofs.seeds.add_body.Given as goal

abbrev pub invariant-loop-usage : goal.invariant-loop-usage
invariant-loop-usage l = record {
  table : set_all l.table (flat_map (λ u. usage_sealed (view_typed l.t) l.fn.f u.how u.value) (map view_usage (drop l.usage-index l.list)))
      ≡ set_all l.fn.table (sealed_in (view_typed l.fn.t) l.fn.f);
  seen : Remembers l.slots l.table l.seen.keys;
}
