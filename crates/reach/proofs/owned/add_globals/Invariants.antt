use Rattle.std.proofs.Common.{◌≡◌, drop, map}
use Rattle.std.specs.List.{flat_map}
use Rattle.typed_tree.specs.TypedView.{view_typed}
use Rattle.reach.specs.Contexts.{expr_globals}
use Rattle.reach.specs.Owned.{global_numbers}
use Rattle.reach.specs.Tables.{set_all}
use Rattle.usages.specs.UsageView.{view_usage}
use Rattle.reach.proofs.owned.add_globals.Given as goal

abbrev pub invariant-loop-usage : goal.invariant-loop-usage
invariant-loop-usage l =
    set_all l.table (map (λ g. g.0) (flat_map (λ u. expr_globals u.value) (map view_usage (drop l.usage-index l.list))))
    ≡ set_all l.fn.table (global_numbers (view_typed l.fn.t) l.fn.f)
