use Rattle.std.proofs.Common.{true, subst}
use Rattle.std.specs.List.{Contains}
use Rattle.flow_picture.specs.declared.node.Node.{Node}
use Rattle.std.proofs.Common.{List}
use Rattle.flow_picture.proofs.SameLemmas.{same_is, same_kept}
use Rattle.flow_picture.proofs.gathering.add_node.Goals as goal

pub returns-then-is_last_node : goal.returns-then-is_last_node
returns-then-is_last_node c =
    same_kept c.args.nodes.now.items true c.args.node
    (subst (λ (xs : List Node). Contains xs c.args.node) c.as_slice.ensures.value (c.is_last_node.ensures c.if-is_last_node.true))

pub returns : goal.returns
returns c = same_is _ _ c.in_ok-push.ensures.items
