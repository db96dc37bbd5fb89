use Rattle.std.proofs.Common.{◌≡◌, ◌++◌, drop}
use Rattle.std.specs.List.{flat_map}
use Rattle.typed_tree.specs.TypedView.{view_typed}
use Rattle.flow_picture.specs.PictureText.{half_line}
use Rattle.flow_picture.proofs.clusters.push_half_nodes.Given as goal

abbrev pub invariant-loop-node : goal.invariant-loop-node
invariant-loop-node l =
    l.text.items ++ flat_map (half_line (view_typed l.t) l.secrets l.seeds l.half) (drop l.node-index l.shown)
    ≡ l.fn.text.items ++ flat_map (half_line (view_typed l.fn.t) l.fn.secrets l.fn.seeds l.fn.half) l.fn.shown
