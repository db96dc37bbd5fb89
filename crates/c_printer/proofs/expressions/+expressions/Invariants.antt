use Rattle.std.proofs.Common.{◌≡◌, drop, map}
use Rattle.pt_tree.specs.ExpressionTree.{view_expr, view_link, view_postfix, expr_trees, link_trees, postfix_trees}
use Rattle.c_printer.specs.Sheets.{lay}
use Rattle.c_printer.specs.Expressions as words
use Rattle.c_printer.proofs.expressions.+expressions.Given as goal

abbrev pub invariant-links-loop-l : goal.invariant-links-loop-l
invariant-links-loop-l l =
    lay (words.links (link_trees (map view_link (drop l.l-index l.links)))) l.sheet ≡ lay (words.links (link_trees (map view_link l.fn.links))) l.fn.sheet

abbrev pub invariant-postfixes-loop-p : goal.invariant-postfixes-loop-p
invariant-postfixes-loop-p l =
    lay (words.postfixes (postfix_trees (map view_postfix (drop l.p-index l.postfixes)))) l.sheet ≡ lay (words.postfixes (postfix_trees (map view_postfix l.fn.postfixes))) l.fn.sheet

abbrev pub invariant-expressions-loop-e : goal.invariant-expressions-loop-e
invariant-expressions-loop-e l =
    lay (words.list_from l.is_first (expr_trees (map view_expr (drop l.e-index l.es)))) l.sheet ≡ lay (words.expressions (expr_trees (map view_expr l.fn.es))) l.fn.sheet
