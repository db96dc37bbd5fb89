use Rattle.std.proofs.Common.{◌∙◌, ◌++◌, ap, map, sym}
use Rattle.pt_base.proofs.Results.{on_ok_implies}
use Rattle.pt_core.specs.CodeTree.{stmt_trees, view_expr, view_stmt}
use Rattle.pt_core.proofs.Rows.{view_choose, view_repeat}
use Rattle.monitor_labels.specs.Nodes.{of_control}
use Rattle.monitor_labels.specs.Arrows.{all_arrows, reads, stmt_arrows}
use Rattle.monitor_labels.specs.Labels.{edges_along}
use Rattle.monitor_labels.specs.Scopes.{function_of, program_of}
use Rattle.monitor_labels.proofs.EdgeLemmas.{choice_added}
use Rattle.monitor_labels.proofs.statements.+statements.Goals as goal

pub add_statement-returns-in_ok-add_statements-in-If : goal.add_statement-returns-in_ok-add_statements-in-If
add_statement-returns-in_ok-add_statements-in-If t c =
    on_ok_implies c.add_statements-in-If.result _ _
    (λ h. choice_added (program_of c.args.scope.now) (of_control (function_of c.args.scope.now).id) (reads (function_of c.args.scope.now).id (view_expr c.in-If.cond)) (all_arrows (program_of c.args.scope.now) (function_of c.args.scope.now) (stmt_trees (map view_stmt c.in-If.yes.items))) (all_arrows (program_of c.args.scope.now) (function_of c.args.scope.now) (stmt_trees (map view_stmt c.in-If.no.items)))
    c.args.scope.now.control c.args.edges.now.items c.add_reads.new.edges.items c.add_statements.new.edges.items c.add_statements-in-If.new.edges.items c.requires.control c.in_ok-add_reads-in-If.ensures
    (c.in_ok-add_statements-in-If.ensures ∙ ap (λ xs. c.add_reads.new.edges.items ++ edges_along (program_of c.args.scope.now) (all_arrows (program_of c.args.scope.now) (function_of c.args.scope.now) (stmt_trees (map view_stmt xs)))) c.deref-in-If.ensures.value)
    (h ∙ ap (λ xs. c.add_statements.new.edges.items ++ edges_along (program_of c.args.scope.now) (all_arrows (program_of c.args.scope.now) (function_of c.args.scope.now) (stmt_trees (map view_stmt xs)))) c.deref-in-If-2.ensures.value)
    ∙ ap (λ s. c.args.edges.now.items ++ edges_along (program_of c.args.scope.now) (stmt_arrows (program_of c.args.scope.now) (function_of c.args.scope.now) s)) (sym (ap view_stmt c.in-If.is ∙ view_choose c.in-If.cond c.in-If.yes c.in-If.no)))
    c.add_statements-in-If.ensures

pub add_statement-returns-in-Loop : goal.add_statement-returns-in-Loop
add_statement-returns-in-Loop t c =
    on_ok_implies c.add_statements-in-Loop.result _ _
    (λ h. h
    ∙ ap (λ xs. c.args.edges.now.items ++ edges_along (program_of c.args.scope.now) (all_arrows (program_of c.args.scope.now) (function_of c.args.scope.now) (stmt_trees (map view_stmt xs)))) c.deref-in-Loop.ensures.value
    ∙ ap (λ s. c.args.edges.now.items ++ edges_along (program_of c.args.scope.now) (stmt_arrows (program_of c.args.scope.now) (function_of c.args.scope.now) s)) (sym (ap view_stmt c.in-Loop.is ∙ view_repeat c.in-Loop.body _)))
    c.add_statements-in-Loop.ensures
