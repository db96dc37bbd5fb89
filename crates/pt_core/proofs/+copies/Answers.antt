use Rattle.std.proofs.Common.{◌∙◌, ap, sym, map}
use Rattle.pt_core.specs.CodeTree.{repeat, stmt_trees, view_stmt}
use Rattle.pt_core.proofs.Rows.{view_choose, view_repeat, same_choice}
use Rattle.pt_core.proofs.+copies.Goals as goal

pub statement::Stmt::copy-returns-in_ok-copied-in-If-2 : goal.statement::Stmt::copy-returns-in_ok-copied-in-If-2
statement::Stmt::copy-returns-in_ok-copied-in-If-2 t c =
    c.choose.ensures
    ∙ same_choice _ _ _ _ _ _ c.in_ok-copy-in-If.ensures (c.in_ok-copied-in-If.ensures ∙ ap (map view_stmt) c.deref-in-If.ensures.value) (c.in_ok-copied-in-If-2.ensures ∙ ap (map view_stmt) c.deref-in-If-2.ensures.value)
    ∙ sym (view_choose c.in-If.cond c.in-If.yes c.in-If.no)
    ∙ sym (ap view_stmt c.in-If.is)

pub statement::Stmt::copy-returns-in_ok-copied-in-Loop : goal.statement::Stmt::copy-returns-in_ok-copied-in-Loop
statement::Stmt::copy-returns-in_ok-copied-in-Loop t c =
    c.repeat.ensures
    ∙ ap (λ xs. repeat (stmt_trees xs) c.in-Loop.span) (c.in_ok-copied-in-Loop.ensures ∙ ap (map view_stmt) c.deref-in-Loop.ensures.value)
    ∙ sym (view_repeat c.in-Loop.body c.in-Loop.span)
    ∙ sym (ap view_stmt c.in-Loop.is)
