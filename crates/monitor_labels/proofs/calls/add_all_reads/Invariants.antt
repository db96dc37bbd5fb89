use Rattle.std.proofs.Common.{◌≡◌, ◌++◌, drop, map}
use Rattle.pt_core.specs.CodeTree.{expr_trees, view_expr}
use Rattle.monitor_labels.specs.Arrows.{all_reads}
use Rattle.monitor_labels.specs.Scopes.{edges_to, function_of, program_of}
use Rattle.monitor_labels.proofs.calls.add_all_reads.Given as goal

-- the edges so far, and then those of the arguments that are left
abbrev pub invariant-loop-argument : goal.invariant-loop-argument
invariant-loop-argument l =
    l.edges.items ++ edges_to (program_of l.scope) (all_reads (function_of l.scope).id (expr_trees (map view_expr (drop l.argument-index l.arguments)))) l.to
    ≡ l.fn.edges.items ++ edges_to (program_of l.scope) (all_reads (function_of l.scope).id (expr_trees (map view_expr l.fn.arguments))) l.to
