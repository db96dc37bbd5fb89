-- Postfixes, chains and calls, as the lists of their parts.
use Rattle.std.proofs.Common.{◌+◌, List, ◌++◌, ◌∙◌, ap, sym, map}
use Rattle.pt_tree.proofs.ListsInTrees.{view_call}
use Rattle.pt_tree.specs.ExpressionTree.{ExprTree, LinkTrees, postfix, chain, view_expr, view_link, view_postfix, expr_trees, link_trees, postfix_trees}
use Rattle.pt_tree.specs.declared.expression.Link.{Link}
use Rattle.c_printer.specs.Kinds.{chain_binding}
use Rattle.c_printer.specs.Gaps.{view_gap}
use Rattle.c_printer.specs.Expressions as words
use Rattle.c_printer.proofs.Laying.{laid_as, laid_behind}
use Rattle.c_printer.proofs.Rows.{view_chain, view_postfixes}
use Rattle.c_printer.proofs.expressions.+expressions.Goals as goal

pub postfix-returns-in-Call : goal.postfix-returns-in-Call
postfix-returns-in-Call t c =
    laid_as _ _ _ _ _ c.call.ensures
    (ap (λ es. words.call_words (expr_trees (map view_expr es))) c.deref.ensures.value
    ∙ sym (ap words.postfix_words (ap view_postfix c.in-Call.is ∙ view_call _ c.in-Call.given)))

pub expression-returns-in_ok-operand-in-Postfix : goal.expression-returns-in_ok-operand-in-Postfix
expression-returns-in_ok-operand-in-Postfix t c =
    let gap = view_gap c.args.gap in
    let s = c.in-Postfix.field-0 in
    let first = view_expr c.deref-in-Postfix.result.now in
    laid_behind _ _ _ _ (words.operand 14 first (words.expression first) gap) _ _ c.postfixes.ensures c.in_ok-operand-in-Postfix.ensures
    (ap (λ x. words.expression (postfix s (view_expr x) (postfix_trees (map view_postfix c.deref-in-Postfix-2.result.now))) gap) c.deref-in-Postfix.ensures
    ∙ ap (λ ps. words.expression (postfix s (view_expr c.in-Postfix.a.value) (postfix_trees (map view_postfix ps))) gap) c.deref-in-Postfix-2.ensures.value
    ∙ sym (ap (λ (e : ExprTree). words.expression e gap) (ap view_expr c.in-Postfix.is ∙ view_postfixes s c.in-Postfix.a c.in-Postfix.parts)))

abbrev tree_of : List Link → LinkTrees
tree_of ls = link_trees (map view_link ls)

pub expression-returns-in_ok-operand-in-Chain : goal.expression-returns-in_ok-operand-in-Chain
expression-returns-in_ok-operand-in-Chain t c =
    let gap = view_gap c.args.gap in
    let s = c.in-Chain.field-0 in
    let first = view_expr c.deref-in-Chain.result.now in
    let parts = tree_of c.in-Chain.parts.items in
    let rest = words.links (tree_of c.deref-in-Chain-3.result.now) in
    let binds = c.chain_binding.ensures.is ∙ ap (λ ls. chain_binding (tree_of ls)) c.deref-in-Chain-2.ensures.value in
    laid_behind _ _ _ _ (words.operand (c.chain_binding.result + 1) first (words.expression first) gap) _ _ c.links.ensures c.in_ok-operand-in-Chain.ensures
    (ap (λ n. words.operand (n + 1) first (words.expression first) gap ++ rest) binds
    ∙ ap (λ ls. words.operand (chain_binding parts + 1) first (words.expression first) gap ++ words.links (tree_of ls)) c.deref-in-Chain-3.ensures.value
    ∙ ap (λ x. words.expression (chain s (view_expr x) parts) gap) c.deref-in-Chain.ensures
    ∙ sym (ap (λ (e : ExprTree). words.expression e gap) (ap view_expr c.in-Chain.is ∙ view_chain s c.in-Chain.a c.in-Chain.parts)))
