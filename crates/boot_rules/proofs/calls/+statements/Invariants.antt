use Rattle.std.proofs.Common.{◌≡◌, drop, map}
use Rattle.std.specs.List.{list_all}
use Rattle.pt_core.specs.CodeTree.{stmt_trees, view_boot, view_stmt}
use Rattle.pt_core.specs.WellFormedStatement.{callees_of}
use Rattle.boot_rules.specs.Tests.{call_fits}
use Rattle.boot_rules.proofs.calls.+statements.Given as goal

abbrev pub invariant-all_calls_fit-loop-statement : goal.invariant-all_calls_fit-loop-statement
invariant-all_calls_fit-loop-statement l =
    list_all (call_fits (view_boot l.candidate.boot.now)) (callees_of (stmt_trees (map view_stmt (drop l.statement-index l.statements))))
    ≡ list_all (call_fits (view_boot l.candidate.boot.now)) (callees_of (stmt_trees (map view_stmt l.fn.statements)))
