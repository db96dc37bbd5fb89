use Rattle.typed_tree.specs.TypedView.{view_typed}
use Rattle.flow_picture.proofs.SecretLemmas.{seeds_are}
use Rattle.flow_picture.proofs.secrets.seeds_of.Goals as goal

pub returns : goal.returns
returns c =
    seeds_are (view_typed c.args.t.now) c.args.sides.now c.requires.sides c.args.nodes.now c.requires.nodes _ c.in_ok-seeds.seeds.items c.arrange_nodes.new.nodes.items
    c.as_slice.ensures c.in_ok-seeds.ensures c.arrange_nodes.ensures.same c.arrange_nodes.ensures.sorted
