use Rattle.std.proofs.Common.{◌∙◌, subst, sym}
use Rattle.std.specs.List.{Contains}
use Rattle.flow_picture.specs.declared.node.Node.{Node}
use Rattle.flow_picture.proofs.OrderLemmas.{node_same}
use Rattle.flow_picture.proofs.SameLemmas.{stands_at}
use Rattle.flow_picture.proofs.gathering.is_last_node.Goals as goal

pub returns-in-Some : goal.returns-in-Some
returns-in-Some c = λ h.
    subst (λ (x : Node). Contains c.args.nodes.now x) (node_same c.in-Some.last.now c.args.node (sym c.eq.ensures ∙ h)) (stands_at c.args.nodes.now _ c.in-Some.last.now c.in-Some.ensures.value)
