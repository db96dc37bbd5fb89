use Rattle.std.proofs.Common.{◌≡◌, drop, map}
use Rattle.reach.specs.Tables.{set_all}
use Rattle.pt_core.specs.CodeTree.{stmt_trees, view_stmt}
use Rattle.pt_core.specs.WellFormedStatement.{callees_of}
use Rattle.splitter.proofs.calls.+callees.Given as goal

abbrev pub invariant-add_all_callees-loop-statement : goal.invariant-add_all_callees-loop-statement
invariant-add_all_callees-loop-statement l =
    set_all l.called (callees_of (stmt_trees (map view_stmt (drop l.statement-index l.statements)))) ≡ set_all l.fn.called (callees_of (stmt_trees (map view_stmt l.fn.statements)))
