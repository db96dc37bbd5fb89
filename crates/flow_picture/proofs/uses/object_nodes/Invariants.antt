use Rattle.std.proofs.Common.{◌≡◌, ◌++◌, drop}
use Rattle.std.specs.List.{flat_map}
use Rattle.typed_tree.specs.TypedView.{view_typed}
use Rattle.flow_picture.specs.Kept.{function_nodes, object_nodes}
use Rattle.flow_picture.proofs.uses.object_nodes.Given as goal

abbrev pub invariant-loop-f : goal.invariant-loop-f
invariant-loop-f l = l.nodes.items ++ flat_map (function_nodes (view_typed l.t)) (drop l.f-index l.slave) ≡ object_nodes (view_typed l.fn.t) l.fn.owned l.fn.slave
