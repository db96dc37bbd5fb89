use Rattle.std.proofs.Common.{ap, map, ◌∙◌, sym}
use Rattle.pt_base.proofs.Places.{drop_step_at}
use Rattle.reach.specs.Tables.{set_all}
use Rattle.pt_core.specs.CodeTree.{view_expr, view_stmt}
use Rattle.pt_core.specs.WellFormedStatement.{callees_in}
use Rattle.pt_core.proofs.Rows.{view_choose, view_repeat}
use Rattle.splitter.proofs.WalkLemmas.{both_set, loop_set, statement_on}
use Rattle.splitter.proofs.calls.+callees.Goals as goal

pub add_callees-returns-in-If : goal.add_callees-returns-in-If
add_callees-returns-in-If t c =
    both_set (view_expr c.in-If.cond) (map view_stmt c.in-If.yes.items) (map view_stmt c.in-If.no.items) _ _ _ _ _ (ap (map view_stmt) c.deref.ensures.value) (ap (map view_stmt) c.deref-in-If.ensures.value) c.add_all_callees.ensures c.add_all_callees-in-If.ensures
    ∙ ap (λ x. set_all c.args.called.now (callees_in x)) (sym (ap view_stmt c.in-If.is ∙ view_choose c.in-If.cond c.in-If.yes c.in-If.no))

pub add_callees-returns-in-Loop : goal.add_callees-returns-in-Loop
add_callees-returns-in-Loop t c =
    loop_set c.in-Loop.span (map view_stmt c.in-Loop.body.items) _ _ _ (ap (map view_stmt) c.deref-in-Loop.ensures.value) c.add_all_callees-in-Loop.ensures
    ∙ ap (λ x. set_all c.args.called.now (callees_in x)) (sym (ap view_stmt c.in-Loop.is ∙ view_repeat c.in-Loop.body c.in-Loop.span))

pub add_all_callees-loop-statement-preserved : goal.add_all_callees-loop-statement-preserved
add_all_callees-loop-statement-preserved t c =
    statement_on (view_stmt c.statement-item.result) _ _ _ _ _ (ap (map view_stmt) (drop_step_at c.args.statements.now c.loop-statement.statement-index c.statement-item.result c.loop-statement-test.true c.statement-item.is)) c.add_callees.ensures
    c.loop-statement.invariant
