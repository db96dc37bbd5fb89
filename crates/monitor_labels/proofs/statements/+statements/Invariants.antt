use Rattle.std.proofs.Common.{◌≡◌, ◌++◌, drop, map}
use Rattle.pt_core.specs.CodeTree.{stmt_trees, view_stmt}
use Rattle.monitor_labels.specs.Arrows.{all_arrows}
use Rattle.monitor_labels.specs.Labels.{edges_along}
use Rattle.monitor_labels.specs.Scopes.{function_of, program_of}
use Rattle.monitor_labels.proofs.statements.+statements.Given as goal

-- the edges so far, and then those of the statements that are left
abbrev pub invariant-add_statements-loop-statement : goal.invariant-add_statements-loop-statement
invariant-add_statements-loop-statement l =
    l.edges.items ++ edges_along (program_of l.scope) (all_arrows (program_of l.scope) (function_of l.scope) (stmt_trees (map view_stmt (drop l.statement-index l.statements))))
    ≡ l.fn.edges.items ++ edges_along (program_of l.scope) (all_arrows (program_of l.scope) (function_of l.scope) (stmt_trees (map view_stmt l.fn.statements)))
