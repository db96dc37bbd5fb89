-- A chain, as the list of its links.
use Rattle.std.proofs.Common.{◌∙◌, ap, sym, map}
use Rattle.pt_tree.specs.ExpressionTree.{view_expr, view_link, link_trees}
use Rattle.c_printer.specs.Kinds as kinds
use Rattle.c_printer.proofs.Rows.{view_chain}
use Rattle.c_printer.proofs.tightness.tightness.Goals as goal

pub returns-in-Chain : goal.returns-in-Chain
returns-in-Chain c =
    c.chain_binding.ensures.is ∙ ap (λ ls. kinds.chain_binding (link_trees (map view_link ls))) c.deref.ensures.value
    ∙ sym (ap kinds.tightness (ap view_expr c.in-Chain.is ∙ view_chain _ c.in-Chain.field-1 c.in-Chain.links))
