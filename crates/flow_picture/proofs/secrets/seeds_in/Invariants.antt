use Rattle.std.proofs.Common.{◌++◌, drop}
use Rattle.std.specs.List.{flat_map}
use Rattle.typed_tree.specs.TypedView.{view_typed}
use Rattle.flow_picture.specs.Kept.{HasSame, seed_nodes}
use Rattle.flow_picture.proofs.secrets.seeds_in.Given as goal

abbrev pub invariant-loop-slot : goal.invariant-loop-slot
invariant-loop-slot l =
    HasSame (l.seeds.items ++ flat_map (seed_nodes (view_typed l.t) l.nodes) (drop l.slot-index l.slots)) (flat_map (seed_nodes (view_typed l.fn.t) l.fn.nodes) l.fn.slots)
