use Rattle.std.proofs.Common.{◌≡◌, ◌∙◌, ap, map, refl, sym}
use Rattle.pt_tree.specs.ExpressionTree.{postfix, postfix_trees, view_expr, view_postfix}
use Rattle.pt_tree.proofs.ListsInTrees.{view_postfixes}
use Rattle.half_trees.specs.Expressions.{extended, with_postfixes}
use Rattle.half_trees.specs.Names.{nowhere}
use Rattle.half_trees.proofs.ChainLemmas.{postfixes_more}
use Rattle.half_trees.proofs.postfixes.longer.Goals as goal

pub returns : goal.returns
returns c =
    let whole = ap view_expr c.in-Postfix.is ∙ view_postfixes c.in-Postfix.span c.in-Postfix.operand.value c.in-Postfix.postfixes c.in-Postfix.operand refl in
    let new = c.add_postfixes.new in
    view_postfixes new.span new.operand.value new.postfixes new.operand refl
    ∙ ap (λ s. postfix s (view_expr new.operand.value) (postfix_trees (map view_postfix new.postfixes.items))) c.in_ok-add_postfixes-in-Postfix.ensures.span
    ∙ ap (λ f. postfix nowhere (view_expr f.value) (postfix_trees (map view_postfix new.postfixes.items))) (c.in_ok-add_postfixes-in-Postfix.ensures.operand ∙ c.in-Postfix.operand-is)
    ∙ ap (postfix nowhere (view_expr c.in-Postfix.operand.value)) (ap (λ xs. postfix_trees (map view_postfix xs)) c.in_ok-add_postfixes-in-Postfix.ensures.postfixes ∙ postfixes_more _ _ ∙ ap (λ v. with_postfixes (postfix_trees (map view_postfix v.items)) (map view_postfix c.args.more.items)) c.in-Postfix.postfixes-is)
    ∙ sym (ap (λ t. extended t (map view_postfix c.args.more.items)) whole)
