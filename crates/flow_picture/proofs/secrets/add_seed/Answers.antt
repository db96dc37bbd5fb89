use Rattle.typed_tree.specs.TypedView.{view_typed}
use Rattle.flow_picture.proofs.SecretLemmas.{seed_on}
use Rattle.flow_picture.proofs.secrets.add_seed.Goals as goal

pub returns : goal.returns
returns c =
    seed_on (view_typed c.args.t.now) c.args.nodes.now c.args.slot c.node_in-node.result c.has_values.result _ _ c.node_in-node.ensures c.has_values.ensures c.in_ok-add_node_if.ensures
