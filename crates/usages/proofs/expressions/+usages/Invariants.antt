use Rattle.std.proofs.Common.{◌≡◌, ◌++◌, drop, map}
use Rattle.typed_tree.specs.ExpressionTree.{view_expr, view_link, view_operand, view_step, expr_trees, link_trees, operand_trees, step_trees}
use Rattle.usages.specs.UsageView.{view_usage}
use Rattle.usages.specs.Usages.{argument_usages, link_usages, operand_usages, step_usages}
use Rattle.usages.proofs.expressions.+usages.Given as goal

abbrev pub invariant-add_arguments-loop-argument : goal.invariant-add_arguments-loop-argument
invariant-add_arguments-loop-argument l =
    map view_usage l.all.items ++ argument_usages l.callee l.number (expr_trees (map view_expr (drop l.argument-index l.arguments)))
    ≡ map view_usage l.fn.all.items ++ argument_usages l.fn.callee 0 (expr_trees (map view_expr l.fn.arguments))

abbrev pub invariant-add_links-loop-link : goal.invariant-add_links-loop-link
invariant-add_links-loop-link l =
    map view_usage l.all.items ++ link_usages (link_trees (map view_link (drop l.link-index l.links)))
    ≡ map view_usage l.fn.all.items ++ link_usages (link_trees (map view_link l.fn.links))

abbrev pub invariant-add_operands-loop-operand : goal.invariant-add_operands-loop-operand
invariant-add_operands-loop-operand l =
    map view_usage l.all.items ++ operand_usages (operand_trees (map view_operand (drop l.operand-index l.operands)))
    ≡ map view_usage l.fn.all.items ++ operand_usages (operand_trees (map view_operand l.fn.operands))

abbrev pub invariant-add_steps-loop-step : goal.invariant-add_steps-loop-step
invariant-add_steps-loop-step l =
    map view_usage l.all.items ++ step_usages (step_trees (map view_step (drop l.step-index l.steps)))
    ≡ map view_usage l.fn.all.items ++ step_usages (step_trees (map view_step l.fn.steps))
