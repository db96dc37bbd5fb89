use Rattle.typed_tree.specs.TypedView.{view_typed}
use Rattle.flow_picture.proofs.ObjectLemmas.{objects_are}
use Rattle.flow_picture.proofs.uses.objects_of.Goals as goal

pub returns : goal.returns
returns c =
    objects_are (view_typed c.args.t.now) c.args.sides.now c.requires.sides _ _ c.in_ok-nodes.nodes.items c.arrange_nodes.new.nodes.items
    c.as_slice-owned.ensures c.as_slice-slave.ensures c.in_ok-nodes.ensures c.arrange_nodes.ensures.same c.arrange_nodes.ensures.sorted
