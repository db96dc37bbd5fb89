use Rattle.std.proofs.Common.{◌≡◌, map, drop}
use Rattle.pt_core.specs.CodeTree.{stmt_trees, view_stmt}
use Rattle.pt_core.specs.WellFormedStatement.{stmts_fit}
use Rattle.code_rules.specs.Scopes.{scope_of}
use Rattle.code_rules.proofs.statements.+statements.Given as goal

-- the rest decides
abbrev pub invariant-statements_fit-loop-statement : goal.invariant-statements_fit-loop-statement
invariant-statements_fit-loop-statement l =
    stmts_fit (scope_of l.scope) l.looped (stmt_trees (map view_stmt (drop l.statement-index l.statements))) ≡ stmts_fit (scope_of l.fn.scope) l.fn.looped (stmt_trees (map view_stmt l.fn.statements))
