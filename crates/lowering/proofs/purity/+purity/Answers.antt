use Rattle.std.proofs.Common.{◌∙◌, ◌&&◌, map, ap, sym, refl, rules}
use Rattle.typed_tree.specs.ExpressionTree as tree
use Rattle.typed_tree.proofs.Rows.{view_read, view_decay, view_address, view_chain}
use Rattle.lowering.specs.Purity.{is_pure, are_pure_links}
use Rattle.lowering.proofs.purity.+purity.Goals as goal

pub is_pure-returns-in-Read : goal.is_pure-returns-in-Read
is_pure-returns-in-Read t c = rw (ap tree.view_form c.in-Read.is ∙ view_read c.in-Read.place) (search rules)

pub is_pure-returns-in-Decay : goal.is_pure-returns-in-Decay
is_pure-returns-in-Decay t c = rw (ap tree.view_form c.in-Decay.is ∙ view_decay c.in-Decay.place) (search rules)

pub is_pure-returns-in-Address : goal.is_pure-returns-in-Address
is_pure-returns-in-Address t c = rw (ap tree.view_form c.in-Address.is ∙ view_address c.in-Address.place) (search rules)

pub is_pure-returns-then-is_pure : goal.is_pure-returns-then-is_pure
is_pure-returns-then-is_pure t c =
    rw (ap tree.view_form c.in-Chain.is ∙ view_chain c.in-Chain.a.value c.in-Chain.links c.in-Chain.a refl)
    (c.are_pure_links.ensures ∙ ap (λ xs. are_pure_links (tree.link_trees (map tree.view_link xs))) c.deref-then-is_pure.ensures.value
    ∙ ap (λ b. b && are_pure_links (tree.link_trees (map tree.view_link c.in-Chain.links.items))) (sym c.if-is_pure.true ∙ c.is_pure-in-Chain.ensures ∙ ap (λ x. is_pure (tree.view_expr x)) c.deref-in-Chain.ensures))
