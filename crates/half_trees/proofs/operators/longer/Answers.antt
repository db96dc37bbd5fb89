use Rattle.std.proofs.Common.{◌≡◌, ◌∙◌, ap, map, refl, sym}
use Rattle.pt_tree.specs.ExpressionTree.{chain, view_expr, view_link, link_trees}
use Rattle.pt_tree.proofs.ListsInTrees.{view_chain}
use Rattle.half_trees.specs.Expressions.{goes_on, one_link, with_link}
use Rattle.half_trees.specs.Names.{nowhere}
use Rattle.half_trees.proofs.ChainLemmas.{link_more, linked_alike}
use Rattle.half_trees.proofs.operators.longer.Goals as goal

pub returns : goal.returns
returns c =
    let whole = ap view_expr c.in-Chain.is ∙ view_chain c.in-Chain.span c.in-Chain.first.value c.in-Chain.links c.in-Chain.first refl in
    let alike = sym (ap (goes_on c.args.op) whole) ∙ c.requires in
    let new = c.add_link.new in
    view_chain new.span new.first.value new.links new.first refl
    ∙ ap (λ s. chain s (view_expr new.first.value) (link_trees (map view_link new.links.items))) c.in_ok-add_link-in-Chain.ensures.span
    ∙ ap (λ f. chain nowhere (view_expr f.value) (link_trees (map view_link new.links.items))) (c.in_ok-add_link-in-Chain.ensures.first ∙ c.in-Chain.first-is)
    ∙ ap (chain nowhere (view_expr c.in-Chain.first.value)) (ap (λ xs. link_trees (map view_link xs)) c.in_ok-add_link-in-Chain.ensures.links ∙ link_more _ _ ∙ ap (λ v. with_link (link_trees (map view_link v.items)) (one_link c.args.op (view_expr c.args.b))) c.in-Chain.links-is)
    ∙ linked_alike c.args.op _ c.in-Chain.span _ _ (view_expr c.args.b) whole alike
