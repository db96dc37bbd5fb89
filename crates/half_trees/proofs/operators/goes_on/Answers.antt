use Rattle.std.proofs.Common.{◌≡◌, ◌∙◌, ap, map, refl, sym}
use Rattle.pt_tree.specs.ExpressionTree.{view_expr, view_link, link_trees}
use Rattle.pt_tree.proofs.ListsInTrees.{view_chain}
use Rattle.half_trees.specs.Expressions.{are_alike, goes_on}
use Rattle.half_trees.proofs.operators.goes_on.Goals as goal

pub returns-in-Chain : goal.returns-in-Chain
returns-in-Chain c =
    let whole = ap view_expr c.in-Chain.is ∙ view_chain c.in-Chain.field-0 c.in-Chain.field-1.value c.in-Chain.links c.in-Chain.field-1 refl in
    c.are_alike.ensures ∙ ap (λ ls. are_alike (link_trees (map view_link ls)) c.args.op) c.deref.ensures.value ∙ sym (ap (goes_on c.args.op) whole)
