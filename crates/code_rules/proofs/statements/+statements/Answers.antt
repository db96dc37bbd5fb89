use Rattle.std.proofs.Common.{◌∙◌, true, ap, sym, map}
use Rattle.pt_core.specs.CodeTree.{stmt_trees, view_stmt}
use Rattle.pt_core.specs.WellFormedStatement.{stmt_fits, stmts_fit}
use Rattle.pt_core.proofs.Rows.{view_choose, view_repeat}
use Rattle.code_rules.specs.Scopes.{scope_of}
use Rattle.code_rules.proofs.StatementLaws.{all_hold, second_fails}
use Rattle.code_rules.proofs.statements.+statements.Goals as goal

pub statement_fits-returns-then-statements_fit : goal.statement_fits-returns-then-statements_fit
statement_fits-returns-then-statements_fit t c =
    c.statements_fit-then-statements_fit.ensures ∙ ap (λ xs. stmts_fit (scope_of c.args.scope.now) c.args.looped (stmt_trees (map view_stmt xs))) c.deref-then-statements_fit.ensures.value
    ∙ all_hold _ _ (stmts_fit (scope_of c.args.scope.now) c.args.looped (stmt_trees (map view_stmt c.in-If.no.items)))
    (sym c.if-condition_fits.true ∙ c.condition_fits.ensures)
    (sym c.if-statements_fit.true ∙ c.statements_fit.ensures ∙ ap (λ xs. stmts_fit (scope_of c.args.scope.now) c.args.looped (stmt_trees (map view_stmt xs))) c.deref-then-condition_fits.ensures.value)
    ∙ sym (ap (stmt_fits (scope_of c.args.scope.now) c.args.looped) (ap view_stmt c.in-If.is ∙ view_choose c.in-If.cond c.in-If.yes c.in-If.no))

pub statement_fits-returns-else-statements_fit : goal.statement_fits-returns-else-statements_fit
statement_fits-returns-else-statements_fit t c =
    c.if-statements_fit.false
    ∙ second_fails _ _ (stmts_fit (scope_of c.args.scope.now) c.args.looped (stmt_trees (map view_stmt c.in-If.no.items)))
    (sym c.if-condition_fits.true ∙ c.condition_fits.ensures)
    (sym c.if-statements_fit.false ∙ c.statements_fit.ensures ∙ ap (λ xs. stmts_fit (scope_of c.args.scope.now) c.args.looped (stmt_trees (map view_stmt xs))) c.deref-then-condition_fits.ensures.value)
    ∙ sym (ap (stmt_fits (scope_of c.args.scope.now) c.args.looped) (ap view_stmt c.in-If.is ∙ view_choose c.in-If.cond c.in-If.yes c.in-If.no))

pub statement_fits-returns-in-Loop : goal.statement_fits-returns-in-Loop
statement_fits-returns-in-Loop t c =
    c.statements_fit-in-Loop.ensures ∙ ap (λ xs. stmts_fit (scope_of c.args.scope.now) true (stmt_trees (map view_stmt xs))) c.deref-in-Loop.ensures.value
    ∙ sym (ap (stmt_fits (scope_of c.args.scope.now) c.args.looped) (ap view_stmt c.in-Loop.is ∙ view_repeat c.in-Loop.body _))
