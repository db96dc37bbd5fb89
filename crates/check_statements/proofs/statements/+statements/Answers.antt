-- A switch, as the list of its sections.
use Rattle.std.proofs.Common.{◌≡◌, ◌∙◌, ap, sym, subst, map}
use Rattle.pt_tree.proofs.ListsInTrees.{view_switch}
use Rattle.pt_tree.specs.ExpressionTree.{view_expr}
use Rattle.pt_tree.specs.StatementTree.{StmtTree, switch as switch_tree, view_stmt, view_section, section_trees}
use Rattle.check_statements.specs.Gives.{GivesChecked, progress_of, state_of}
use Rattle.check_statements.specs.Statements.{checked}
use Rattle.check_statements.proofs.statements.+statements.Goals as goal

pub statement-returns-in-Switch : goal.statement-returns-in-Switch
statement-returns-in-Switch t c =
    let shape : view_stmt c.args.s.now ≡ switch_tree c.in-Switch.span (view_expr c.in-Switch.on) (section_trees (map view_section c.in-Switch.parts.items)) = ap view_stmt c.in-Switch.is ∙ view_switch c.in-Switch.span c.in-Switch.on c.in-Switch.parts in
    subst (λ (x : StmtTree). GivesChecked c.switch.result (progress_of c.args.names.now c.args.walk.now) (progress_of c.switch.new.names c.switch.new.walk) (checked c.args.context (state_of c.args.names.now c.args.walk.now) x)) (sym shape)
    (rw (← c.deref-in-Switch.ensures.value) c.switch.ensures)
