-- Before the first usage nothing moves, and no items are kept.
use Rattle.std.proofs.Common.{◌∙◌, ◌++◌, ap, map}
use Rattle.std.specs.List.{flat_map}
use Rattle.usages.specs.UsageView.{view_usage}
use Rattle.typed_tree.specs.TypedView.{view_typed}
use Rattle.flow_edges.specs.Edges.{usage_edges}
use Rattle.flow_edges.specs.MoveView.{moved_edges}
use Rattle.flow_edges.proofs.edges.body_moves.Goals as goal

pub loop-usage-init : goal.loop-usage-init
loop-usage-init c =
    let given = usage_edges (view_typed c.args.t.now) c.args.f.0 in record {
      edges =
          ap (λ ms. moved_edges ms ++ flat_map given (map view_usage c.of-list.result.now)) c.new-moves.ensures.items
          ∙ ap (flat_map given) c.of-list.ensures;
      items = c.none-items.ensures c.scope-scope.result.structs.now;
    }
