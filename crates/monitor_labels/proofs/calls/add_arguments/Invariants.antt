use Rattle.std.proofs.Common.{◌≡◌, ◌++◌, drop, map}
use Rattle.pt_core.specs.CodeTree.{expr_trees, view_expr}
use Rattle.monitor_labels.specs.Arrows.{argument_arrows}
use Rattle.monitor_labels.specs.Labels.{edges_along}
use Rattle.monitor_labels.specs.Scopes.{function_of, program_of}
use Rattle.monitor_labels.proofs.calls.add_arguments.Given as goal

-- the edges so far, and then those of the arguments that are left
abbrev pub invariant-loop-argument : goal.invariant-loop-argument
invariant-loop-argument l =
    l.edges.items ++ edges_along (program_of l.scope) (argument_arrows (function_of l.scope) (function_of l.callee) l.number (expr_trees (map view_expr (drop l.argument-index l.arguments))))
    ≡ l.fn.edges.items ++ edges_along (program_of l.scope) (argument_arrows (function_of l.scope) (function_of l.callee) 0 (expr_trees (map view_expr l.fn.arguments)))
