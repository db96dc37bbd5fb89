use Rattle.std.proofs.Common.{◌≡◌, ◌++◌, drop}
use Rattle.typed_tree.specs.TypedView.{view_typed}
use Rattle.flow_picture.specs.Kept.{HasSame, secrets_from}
use Rattle.flow_picture.proofs.secrets.secrets_in.Given as goal

abbrev pub invariant-loop-node : goal.invariant-loop-node
invariant-loop-node l =
    HasSame (l.secrets.items ++ secrets_from (view_typed l.t) l.marks l.slot (drop l.node-index l.nodes)) (secrets_from (view_typed l.fn.t) l.fn.marks 0 l.fn.nodes) × (l.slot ≡ l.node-index)
