use Rattle.std.proofs.Common.{◌≡◌, ◌++◌, ◌∙◌, ap, map, subst}
use Rattle.std.specs.Result.{OnOk}
use Rattle.pt_tree.specs.StatementTree as tree
use Rattle.pt_core.specs.CodeTree.{stmt_trees, view_expr, view_stmt}
use Rattle.pt_tree.specs.ExpressionTree.{ExprTree}
use Rattle.typed_tree.specs.declared.types.VarTy.{VarTy}
use Rattle.half_trees.specs.Statements.{statements_trees}
use Rattle.pt_core.proofs.Rows.{view_choose, view_repeat}
use Rattle.half_trees.specs.Views.{view_half, view_scope}
use Rattle.half_trees.proofs.StatementLemmas.{choice_is, loop_is}
use Rattle.half_trees.proofs.statements.+statements.Goals as goal

pub push_statement-returns-in_ok-second-in-If : goal.push_statement-returns-in_ok-second-in-If
push_statement-returns-in_ok-second-in-If t c =
    let scope = c.args.scope.now in
    let is = choice_is (view_half scope.half.now).signatures (view_scope scope) (view_stmt c.args.statement.now) (view_expr c.in-If.cond) c.in-If.yes.items c.in-If.no.items _ _ _ _ _
    (ap view_stmt c.in-If.is ∙ view_choose c.in-If.cond c.in-If.yes c.in-If.no) c.deref-in-If.ensures.value c.deref-in-If-3.ensures.value
    (ap (λ (b : ExprTree × VarTy). b.0) c.in_ok-test-in-If.ensures) c.in_ok-first-in-If.ensures
    (c.in_ok-second-in-If.ensures ∙ ap (λ xs. statements_trees (view_half scope.half.now).signatures (view_scope scope) (stmt_trees (map view_stmt xs))) c.deref-in-If-2.ensures.value) in
    subst (λ xs. OnOk c.push_if.result (map tree.view_stmt c.push_if.new.out.items ≡ map tree.view_stmt c.args.out.now.items ++ xs)) is c.push_if.ensures

pub push_statement-returns-in_ok-body-in-Loop : goal.push_statement-returns-in_ok-body-in-Loop
push_statement-returns-in_ok-body-in-Loop t c =
    let scope = c.args.scope.now in
    let is = loop_is (view_half scope.half.now).signatures (view_scope scope) (view_stmt c.args.statement.now) c.in-Loop.body.items _ c.in-Loop.span _
    (ap view_stmt c.in-Loop.is ∙ view_repeat c.in-Loop.body c.in-Loop.span) c.deref-in-Loop.ensures.value c.in_ok-body-in-Loop.ensures in
    subst (λ xs. OnOk c.push_loop.result (map tree.view_stmt c.push_loop.new.out.items ≡ map tree.view_stmt c.args.out.now.items ++ xs)) is c.push_loop.ensures
