use Rattle.std.proofs.Common.{◌≡◌, ◌++◌, drop, map}
use Rattle.std.specs.List.{flat_map}
use Rattle.reach.specs.Contexts.{expr_callees}
use Rattle.typed_tree.specs.TypedView.{view_typed}
use Rattle.usages.specs.UsageView.{view_usage}
use Rattle.flow_picture.specs.Kept.{callee_nodes, result_nodes}
use Rattle.flow_picture.proofs.uses.push_callees.Given as goal

abbrev pub invariant-loop-usage : goal.invariant-loop-usage
invariant-loop-usage l =
    l.nodes.items ++ flat_map (result_nodes (view_typed l.t)) (flat_map (λ u. expr_callees u.value) (map view_usage (drop l.usage-index l.list)))
    ≡ l.fn.nodes.items ++ callee_nodes (view_typed l.fn.t) l.fn.f
