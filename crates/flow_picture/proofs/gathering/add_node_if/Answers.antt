use Rattle.flow_picture.proofs.SameLemmas.{same_if}
use Rattle.flow_picture.proofs.gathering.add_node_if.Goals as goal

pub returns-in_ok-add_node : goal.returns-in_ok-add_node
returns-in_ok-add_node c = same_if c.args.truth c.args.node _ _ c.if-truth.true c.in_ok-add_node.ensures
