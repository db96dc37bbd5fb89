use Rattle.std.proofs.Common.{◌≡◌, ◌++◌, ◌+◌, ◌*◌, drop, map}
use Rattle.pt_core.specs.CodeTree.{stmt_trees, view_stmt}
use Rattle.pt_tree.specs.StatementTree as c
use Rattle.half_trees.specs.Statements.{statements_trees}
use Rattle.half_trees.specs.Views.{view_half, view_scope}
use Rattle.half_trees.proofs.statements.+statements.Given as goal

-- the statements so far, and then the others, are all of them
abbrev pub invariant-statements-loop-statement : goal.invariant-statements-loop-statement
invariant-statements-loop-statement l =
    map c.view_stmt l.out.items ++ statements_trees (view_half l.scope.half.now).signatures (view_scope l.scope) (stmt_trees (map view_stmt (drop l.statement-index l.list)))
    ≡ statements_trees (view_half l.scope.half.now).signatures (view_scope l.scope) (stmt_trees (map view_stmt l.list))
