use Rattle.std.proofs.Common.{◌≡◌, ◌∙◌, ◌+◌, [], map, ap, refl, sym, subst, None, Some, drop, rules}
use Rattle.std.proofs.lemmas.List.{drop_all}
use Rattle.pt_base.proofs.Places.{drop_step_at}
use Rattle.typed_tree.specs.StatementTree as tree
use Rattle.typed_tree.proofs.Rows.{view_block, view_switch}
use Rattle.pt_core.specs.CodeTree.{view_expr, view_stmt}
use Rattle.lowering.specs.Names.{code_in}
use Rattle.lowering.specs.Onwards.{view_onward}
use Rattle.lowering.specs.Output.{next, output_of, Does}
use Rattle.lowering.specs.Operators.{as_int}
use Rattle.lowering.specs.Expressions.{value_in}
use Rattle.lowering.specs.Statements as is
use Rattle.lowering.specs.StatementParts.{for_from, section_in}
use Rattle.lowering.proofs.OutputLemmas.{same_stmt, also}
use Rattle.c_lower.proofs.LoopLemmas.{one_then, then_makes, looped_makes, way_back_makes, chosen_makes, chosen_alone, leads_step, leads_end}
use Rattle.lowering.proofs.SwitchLemmas.{switched_does}
use Rattle.c_lower.proofs.statements.+statements.Goals as goal

pub statement-returns-in-Block : goal.statement-returns-in-Block
statement-returns-in-Block t c =
    rw (ap tree.view_body c.in-Block.is ∙ view_block c.in-Block.field-0 c.in-Block.all, ← c.deref.ensures.value) c.statements.ensures

pub statement-returns-in-Switch : goal.statement-returns-in-Switch
statement-returns-in-Switch t c =
    rw (ap tree.view_body c.in-Switch.is ∙ view_switch c.in-Switch.span c.in-Switch.e c.in-Switch.ty c.in-Switch.all, ← c.deref-in-Switch.ensures.value) c.switch.ensures

-- ---- parts

pub choose-returns : goal.choose-returns
choose-returns t c =
    let code = code_in c.args.names.now in
    also _ _ _
    (λ e. chosen_makes (output_of c.args.lowering.now) _ _ _ _ (value_in code.scope (is.outermost code c.args.e) (next (output_of c.args.lowering.now))) _ (is.statement_in code (tree.view_body c.args.yes.now) (view_onward c.args.mode)) (is.statement_in code (tree.view_body c.args.no.now) (view_onward c.args.mode)) _ _
    c.in_ok-cond.ensures c.in_ok-first.ensures c.in_ok-second.ensures (same_stmt _ _ _ _ c.choose.ensures e))
    c.add.ensures

pub choose_alone-returns : goal.choose_alone-returns
choose_alone-returns t c =
    let code = code_in c.args.names.now in
    also _ _ _
    (λ e. chosen_alone (output_of c.args.lowering.now) _ _ _ (value_in code.scope (is.outermost code c.args.e) (next (output_of c.args.lowering.now))) _ (is.statement_in code (tree.view_body c.args.yes.now) (view_onward c.args.mode)) _ _
    c.in_ok-cond.ensures c.in_ok-first.ensures (ap (map view_stmt) c.new.ensures.items) (same_stmt _ _ _ _ c.choose.ensures e))
    c.add.ensures

pub for_step-returns : goal.for_step-returns
for_step-returns t c =
    let code = code_in c.args.names.now in
    also _ _ _ (λ d. then_makes _ _ _ (is.begun code c.args.init.now) (for_from code c.args.span c.args.e (Some c.args.step) (tree.view_body c.args.body.now)) c.in_ok-begin_for.ensures d) c.loop_step.ensures

pub for_test-returns : goal.for_test-returns
for_test-returns t c =
    let code = code_in c.args.names.now in
    also _ _ _ (λ d. then_makes _ _ _ (is.begun code c.args.init.now) (for_from code c.args.span c.args.e None (tree.view_body c.args.body.now)) c.in_ok-begin_for.ensures d) c.loop_while.ensures

pub do_while-returns : goal.do_while-returns
do_while-returns t c =
    let code = code_in c.args.names.now in
    also _ _ _
    (λ e. way_back_makes _ _ _ _ _ _ _ _ _ _ _ _ _ (is.tested code (Some c.args.e)) (is.statement_in code (tree.view_body c.args.body.now) is.to_head)
    c.in_ok-first.ensures.number c.in_ok-first.ensures.output c.begin-outer.ensures.outer c.begin-outer.ensures.output c.in_ok-back.ensures c.in_ok-on_the_way_back.ensures c.in_ok-statement.ensures c.end-inner.ensures.inner c.end-inner.ensures.output
    (same_stmt _ _ _ _ c.repeat.ensures e))
    c.add.ensures

pub loop_step-returns : goal.loop_step-returns
loop_step-returns t c =
    let code = code_in c.args.names.now in
    let body = is.statement_in code (tree.view_body c.args.body.now) is.to_head in
    also _ _ _
    (λ e. way_back_makes _ _ _ _ _ _ _ _ _ _ _ _ _ (is.stepped code (Some c.args.step)) (one_then (is.tested code c.args.e) body)
    c.in_ok-first.ensures.number c.in_ok-first.ensures.output c.begin-outer.ensures.outer c.begin-outer.ensures.output c.in_ok-back.ensures c.in_ok-on_the_way_back.ensures
    (then_makes _ _ _ (is.tested code c.args.e) body c.in_ok-test.ensures c.in_ok-statement.ensures) c.end-inner.ensures.inner c.end-inner.ensures.output (same_stmt _ _ _ _ c.repeat.ensures e))
    c.add.ensures

pub loop_while-returns : goal.loop_while-returns
loop_while-returns t c =
    let code = code_in c.args.names.now in
    let body = is.statement_in code (tree.view_body c.args.body.now) is.to_head in
    also _ _ _
    (λ e. looped_makes _ _ _ _ _ _ _ _ (one_then (is.tested code c.args.e) body) c.begin-outer.ensures.outer c.begin-outer.ensures.output
    (then_makes _ _ _ (is.tested code c.args.e) body c.in_ok-test.ensures c.in_ok-statement.ensures) c.end-inner.ensures.inner c.end-inner.ensures.output (same_stmt _ _ _ _ c.repeat.ensures e))
    c.add.ensures

pub switch-returns : goal.switch-returns
switch-returns t c =
    let code = code_in c.args.names.now in
    also _ _ _
    (λ e. switched_does code _ _ _ (view_onward c.args.mode) (view_onward c.inside.result) (tree.section_trees (map tree.view_section c.args.all.now)) (output_of c.args.lowering.now) _ _ _ _ _ _ _ _ _ _ _ (value_in code.scope (is.outermost code c.args.e) (next (output_of c.args.lowering.now))) _ _ _ _ _ _ _ _ _ _ c.in_ok-v.ensures (c.in_ok-promoted.ensures ∙ ap (λ z. as_int z c.args.ty (view_expr c.in_ok-v.v)) c.type_of_numbered-from.ensures) c.counting.ensures c.counting-counting.ensures
    c.in_ok-value.ensures.number c.in_ok-value.ensures.output (c.number.ensures ∙ ap is.number c.otherwise.ensures) c.in_ok-chosen.ensures.output c.in_ok-choose_sections.ensures c.number-2.ensures c.in_ok-flag.ensures.number c.in_ok-flag.ensures.output
    c.begin-outer.ensures.outer c.begin-outer.ensures.output c.inside.ensures c.in_ok-sections.ensures c.in_ok-add.ensures c.end-inner.ensures.inner c.end-inner.ensures.output (same_stmt _ _ _ _ c.repeat.ensures c.in_ok-add-2.ensures) e)
    c.go_on_behind.ensures

-- ---- loops

pub statements-loop-body-preserved : goal.statements-loop-body-preserved
statements-loop-body-preserved t c =
    let code = code_in c.args.names.now in
    let mode = view_onward c.args.mode in
    let all = c.args.all.now in
    let i = c.loop-body.body-index in
    let first = output_of c.args.lowering.now in
    let now = output_of c.loop-body.lowering in
    let split = ap (λ xs. is.all_in code (tree.body_trees (map tree.view_body xs)) mode (next now)) (drop_step_at all i c.body-item.result c.loop-body-test.true c.body-item.is) in
    leads_step now _ first (is.all_in code (tree.body_trees (map tree.view_body all)) mode (next first)) (is.statement_in code (tree.view_body c.body-item.result) mode (next now)) (is.all_in code (tree.body_trees (map tree.view_body (drop i all))) mode (next now))
    (is.all_in code (tree.body_trees (map tree.view_body (drop (i + 1) all))) mode) split c.in_ok-statement.ensures c.loop-body.invariant

pub statements-returns : goal.statements-returns
statements-returns t c =
    let code = code_in c.args.names.now in
    let mode = view_onward c.args.mode in
    let all = c.args.all.now in
    let i = c.loop-body.body-index in
    let first = output_of c.args.lowering.now in
    let now = output_of c.loop-body.lowering in
    leads_end now first (is.all_in code (tree.body_trees (map tree.view_body all)) mode (next first)) (is.all_in code (tree.body_trees (map tree.view_body (drop i all))) mode (next now))
    (ap (λ xs. is.all_in code (tree.body_trees (map tree.view_body xs)) mode (next now)) (drop_all i all c.loop-body-test.false)) c.loop-body.invariant

pub sections-loop-m-preserved : goal.sections-loop-m-preserved
sections-loop-m-preserved t c =
    let code = code_in c.args.names.now in
    let mode = view_onward c.args.mode in
    let s = c.args.choosing.span in
    let k = c.args.choosing.value.0 in
    let all = c.args.all.now in
    let m = c.loop-m.m in
    let first = output_of c.args.lowering.now in
    let now = output_of c.loop-m.lowering in
    let split = ap (λ xs. is.sections_in code s (tree.section_trees (map tree.view_section xs)) mode k m (next now)) (drop_step_at all m c.index-all-m.result c.loop-m-test.true c.index-all-m.is) in
    leads_step now _ first (is.sections_in code s (tree.section_trees (map tree.view_section all)) mode k 0 (next first)) (section_in code s (tree.view_section c.index-all-m.result) mode k m (next now))
    (is.sections_in code s (tree.section_trees (map tree.view_section (drop m all))) mode k m (next now)) (is.sections_in code s (tree.section_trees (map tree.view_section (drop (m + 1) all))) mode k (m + 1)) split c.in_ok-section_at.ensures c.loop-m.invariant

pub sections-returns : goal.sections-returns
sections-returns t c =
    let code = code_in c.args.names.now in
    let mode = view_onward c.args.mode in
    let s = c.args.choosing.span in
    let k = c.args.choosing.value.0 in
    let all = c.args.all.now in
    let m = c.loop-m.m in
    let first = output_of c.args.lowering.now in
    let now = output_of c.loop-m.lowering in
    leads_end now first (is.sections_in code s (tree.section_trees (map tree.view_section all)) mode k 0 (next first)) (is.sections_in code s (tree.section_trees (map tree.view_section (drop m all))) mode k m (next now))
    (ap (λ xs. is.sections_in code s (tree.section_trees (map tree.view_section xs)) mode k m (next now)) (drop_all m all c.loop-m-test.false)) c.loop-m.invariant
