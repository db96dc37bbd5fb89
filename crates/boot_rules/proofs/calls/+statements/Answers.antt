use Rattle.std.proofs.Common.{◌∙◌, map, refl}
use Rattle.std.specs.List.{list_all}
use Rattle.pt_core.specs.CodeTree.{stmt_trees, view_boot, view_stmt}
use Rattle.pt_core.specs.WellFormedStatement.{callees_of}
use Rattle.boot_rules.specs.Tests.{call_fits}
use Rattle.boot_rules.proofs.BoolLemmas.{else_both, then_both}
use Rattle.boot_rules.proofs.CallLemmas.{both_called, loop_called}
use Rattle.boot_rules.proofs.calls.+statements.Goals as goal

pub its_calls_fit-returns-then-all_calls_fit : goal.its_calls_fit-returns-then-all_calls_fit
its_calls_fit-returns-then-all_calls_fit t c =
    then_both c.all_calls_fit.result c.all_calls_fit-then-all_calls_fit.result _
    (both_called (call_fits (view_boot c.args.candidate.now.boot.now)) c.args.statement.now c.in-If.cond c.in-If.yes c.in-If.no c.deref.result.now c.deref-then-all_calls_fit.result.now c.all_calls_fit.result c.all_calls_fit-then-all_calls_fit.result
    c.in-If.is c.deref.ensures.value c.deref-then-all_calls_fit.ensures.value c.all_calls_fit.ensures c.all_calls_fit-then-all_calls_fit.ensures)
    c.if-all_calls_fit.true

pub its_calls_fit-returns-else-all_calls_fit : goal.its_calls_fit-returns-else-all_calls_fit
its_calls_fit-returns-else-all_calls_fit t c =
    let test = call_fits (view_boot c.args.candidate.now.boot.now) in
    let others = list_all test (callees_of (stmt_trees (map view_stmt c.in-If.no.items))) in
    c.if-all_calls_fit.false
    ∙ else_both c.all_calls_fit.result others _
    (both_called test c.args.statement.now c.in-If.cond c.in-If.yes c.in-If.no c.deref.result.now c.in-If.no.items c.all_calls_fit.result others c.in-If.is c.deref.ensures.value refl c.all_calls_fit.ensures refl)
    c.if-all_calls_fit.false

pub its_calls_fit-returns-in-Loop : goal.its_calls_fit-returns-in-Loop
its_calls_fit-returns-in-Loop t c =
    loop_called (call_fits (view_boot c.args.candidate.now.boot.now)) c.args.statement.now c.in-Loop.body c.in-Loop.span c.deref-in-Loop.result.now c.all_calls_fit-in-Loop.result c.in-Loop.is c.deref-in-Loop.ensures.value c.all_calls_fit-in-Loop.ensures
