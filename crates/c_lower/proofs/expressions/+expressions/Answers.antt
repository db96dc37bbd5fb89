use Rattle.std.proofs.Common.{◌∙◌, ◌+◌, ◌∷◌, [], ap, sym, refl, map, false, not, Some}
use Rattle.std.proofs.lemmas.List.{map-append, drop_all}
use Rattle.pt_base.proofs.Places.{drop_step_at}
use Rattle.typed_tree.specs.declared.expression.TypedExpr.{TypedExpr}
use Rattle.typed_tree.specs.ExpressionTree as tree
use Rattle.typed_tree.proofs.Rows.{view_read, view_decay, view_address, view_chain, view_logical, view_assign, view_compound, view_increment, view_call}
use Rattle.pt_core.specs.CodeTree.{view_expr}
use Rattle.source_meaning.specs.Expressions.{type_of}
use Rattle.lowering.specs.Expressions.{value_in}
use Rattle.lowering.specs.Lowered.{past}
use Rattle.lowering.specs.Names.{scope_of}
use Rattle.lowering.specs.Output.{output_of, next}
use Rattle.lowering.proofs.OutputLemmas.{same_stmt, also}
use Rattle.lowering.proofs.FormLemmas.{checked_is, choice_is, choice_dropped, count_is, operand_begun, operand_typed}
use Rattle.c_lower.proofs.ArmLemmas.{chain_is, logical_is, compound_is, compound_dropped, copied_in, given_in, assign_is, assign_dropped, assign_object, counted_dropped, unary_dropped, chain_dropped, held_dropped, link_is, read_of, decay_of, address_of, behind_is, standing_is, field_step, item_is, flip}
use Rattle.c_lower.proofs.WalkLemmas.{links_begin, links_step, links_end, operands_begin, operands_step, operands_end, steps_begin, steps_step, steps_end, arguments_step, arguments_end}
use Rattle.c_lower.proofs.expressions.+expressions.Goals as goal

-- ---- values

pub value-returns-in_ok-at-in-Read : goal.value-returns-in_ok-at-in-Read
value-returns-in_ok-at-in-Read t c =
    rw (ap tree.view_form c.in-Read.is ∙ view_read c.in-Read.p) (read_of (scope_of c.args.names.now) (output_of c.args.lowering.now) _ (tree.view_place c.in-Read.p) c.args.e.now.span c.args.e.now.ty _ _ c.in_ok-at-in-Read.ensures c.read.ensures)

pub value-returns-in_ok-at-in-Decay : goal.value-returns-in_ok-at-in-Decay
value-returns-in_ok-at-in-Decay t c =
    rw (ap tree.view_form c.in-Decay.is ∙ view_decay c.in-Decay.p) (decay_of (scope_of c.args.names.now) (output_of c.args.lowering.now) _ (tree.view_place c.in-Decay.p) c.args.e.now.span c.args.e.now.ty _ _ c.in_ok-at-in-Decay.ensures c.decay.ensures)

pub value-returns-in_ok-at-in-Address : goal.value-returns-in_ok-at-in-Address
value-returns-in_ok-at-in-Address t c =
    rw (ap tree.view_form c.in-Address.is ∙ view_address c.in-Address.p) (address_of (scope_of c.args.names.now) (output_of c.args.lowering.now) _ (tree.view_place c.in-Address.p) c.args.e.now.span c.args.e.now.ty _ _ c.in_ok-at-in-Address.ensures c.address.ensures)

pub value-returns-in_ok-first-in-Chain : goal.value-returns-in_ok-first-in-Chain
value-returns-in_ok-first-in-Chain t c =
    rw (ap tree.view_form c.in-Chain.is ∙ view_chain c.in-Chain.a.value c.in-Chain.links c.in-Chain.a refl)
    (chain_is (scope_of c.args.names.now) c.chained.result (output_of c.args.lowering.now) _ _ (tree.view_expr c.in-Chain.a.value) _ _ _ _ _ c.args.e.now.span _ c.in_ok-first-in-Chain.ensures (ap tree.view_expr c.deref-in-Chain.ensures) (c.holding-keeper.ensures ∙ ap (λ (x : TypedExpr). record { ty = c.type_of-in-Chain.result; holds = Some x.span }) c.deref-in-Chain-3.ensures)
    (c.type_of-in-Chain.ensures ∙ ap (λ x. type_of (tree.view_expr x)) c.deref-in-Chain-2.ensures)
    (ap (λ xs. tree.link_trees (map tree.view_link xs)) c.deref-in-Chain-4.ensures.value)
    (c.chained.ensures (output_of c.args.lowering.now)))

pub value-returns-in_ok-operands-in-Logical : goal.value-returns-in_ok-operands-in-Logical
value-returns-in_ok-operands-in-Logical t c =
    rw (ap tree.view_form c.in-Logical.is ∙ view_logical c.in-Logical.op c.in-Logical.a.value c.in-Logical.others c.in-Logical.a refl, c.temp.ensures)
    (logical_is (scope_of c.args.names.now) (output_of c.args.lowering.now) _ _ _ c.in-Logical.op (tree.view_expr c.in-Logical.a.value) _ _ _ _ _ c.args.e.now.span _ _ c.in_ok-first-in-Logical.ensures (ap tree.view_expr c.deref-in-Logical.ensures)
    (c.type_of-in-Logical.ensures ∙ ap (λ x. type_of (tree.view_expr x)) c.deref-in-Logical-2.ensures)
    (ap (λ xs. tree.operand_trees (map tree.view_operand xs)) c.deref-in-Logical-3.ensures.value) refl
    (c.in_ok-k-in-Logical.ensures.number (output_of c.args.lowering.now)) (c.in_ok-k-in-Logical.ensures.output (output_of c.args.lowering.now) _) (c.in_ok-operands-in-Logical.ensures (output_of c.args.lowering.now)))

pub value-returns-in_ok-add-in-Choice : goal.value-returns-in_ok-add-in-Choice
value-returns-in_ok-add-in-Choice t c =
    rw (c.in-Choice.is, ← c.deref-in-Choice.ensures, ← c.deref-in-Choice-2.ensures, ← c.deref-in-Choice-3.ensures, c.temp-in-Choice.ensures)
    (choice_is (scope_of c.args.names.now) (output_of c.args.lowering.now) _ _ _ _ _ _ _ _ _ _ (tree.view_expr c.deref-in-Choice-2.result.now) (tree.view_expr c.deref-in-Choice-3.result.now) _ _ c.in_ok-cond-in-Choice.ensures (sym (c.holding-whole.ensures ∙ ap (λ z. record { ty = z; holds = Some c.args.e.now.span }) c.type_or_int-in-Choice.ensures))
    c.in_ok-k-in-Choice.ensures.number c.in_ok-k-in-Choice.ensures.output c.in_ok-first-in-Choice.ensures c.in_ok-second-in-Choice.ensures
    (same_stmt _ _ _ _ c.choose.ensures c.in_ok-add-in-Choice.ensures))

pub value-returns-in_ok-to-in-Assign : goal.value-returns-in_ok-to-in-Assign
value-returns-in_ok-to-in-Assign t c =
    rw (ap tree.view_form c.in-Assign.is ∙ view_assign c.in-Assign.p c.in-Assign.a.value c.in-Assign.a refl)
    (assign_is (scope_of c.args.names.now) (output_of c.args.lowering.now) _ (tree.view_place c.in-Assign.p) (tree.view_expr c.in-Assign.a.value) _ _ c.args.e.now.span c.args.e.now.ty _ _ c.in_ok-to-in-Assign.ensures (ap tree.view_expr c.deref-in-Assign.ensures) c.is_struct.ensures c.read-in-Assign.ensures)

pub value-returns-in_ok-after-in-Compound : goal.value-returns-in_ok-after-in-Compound
value-returns-in_ok-after-in-Compound t c =
    rw (ap tree.view_form c.in-Compound.is ∙ view_compound c.in-Compound.p _ c.in-Compound.step c.in-Compound.operand.value c.in-Compound.operand refl)
    (compound_is (scope_of c.args.names.now) (output_of c.args.lowering.now) _ _ _ (tree.view_place c.in-Compound.p) c.args.e.now.span c.in-Compound.step (tree.view_expr c.in-Compound.operand.value) _ _ c.args.e.now.span c.args.e.now.ty _ _ _ _ _ c.in_ok-to-in-Compound.ensures c.fixes_left.ensures (ap tree.view_expr c.deref-in-Compound.ensures)
    c.in_ok-v-in-Compound.ensures (ap tree.view_expr c.deref-in-Compound-2.ensures) (c.in_ok-after-in-Compound.ensures (output_of c.args.lowering.now) _) c.read-in-Compound.ensures)

pub value-returns-in_ok-to-in-Step : goal.value-returns-in_ok-to-in-Step
value-returns-in_ok-to-in-Step t c =
    rw (ap tree.view_form c.in-Step.is ∙ view_increment c.in-Step.p c.in-Step.at c.in-Step.back c.in-Step.postfix, ← count_is (scope_of c.args.names.now) (tree.view_place c.in-Step.p) c.in-Step.at c.in-Step.back c.in-Step.postfix c.args.e.now.span c.args.e.now.ty (next (output_of c.args.lowering.now)))
    (c.count.ensures (output_of c.args.lowering.now) (tree.view_place c.in-Step.p) _ c.in_ok-to-in-Step.ensures)

pub value-returns-in_ok-values-in-Call : goal.value-returns-in_ok-values-in-Call
value-returns-in_ok-values-in-Call t c =
    rw (ap tree.view_form c.in-Call.is ∙ view_call c.in-Call.f c.in-Call.all, ← c.deref-in-Call.ensures.value)
    (c.called.ensures (output_of c.args.lowering.now) _ _ refl c.in_ok-values-in-Call.ensures)

-- ---- effects

pub effects-returns-in-Read : goal.effects-returns-in-Read
effects-returns-in-Read t c = rw (ap tree.view_form c.in-Read.is ∙ view_read c.in-Read.p) c.checked.ensures

pub effects-returns-in-Decay : goal.effects-returns-in-Decay
effects-returns-in-Decay t c = rw (ap tree.view_form c.in-Decay.is ∙ view_decay c.in-Decay.p) c.checked-in-Decay.ensures

pub effects-returns-in-Address : goal.effects-returns-in-Address
effects-returns-in-Address t c = rw (ap tree.view_form c.in-Address.is ∙ view_address c.in-Address.p) c.checked-in-Address.ensures

pub effects-returns-in-Unary : goal.effects-returns-in-Unary
effects-returns-in-Unary t c = unary_dropped (scope_of c.args.names.now) c.held.result (output_of c.args.lowering.now) _ (tree.view_form c.args.e.now.form) _ _ c.args.e.now.span c.args.e.now.ty (ap tree.view_form c.in-Unary.is) c.held.ensures

pub effects-returns-in-Chain : goal.effects-returns-in-Chain
effects-returns-in-Chain t c = chain_dropped (scope_of c.args.names.now) c.held-in-Chain.result (output_of c.args.lowering.now) _ (tree.view_form c.args.e.now.form) _ _ c.args.e.now.span c.args.e.now.ty (ap tree.view_form c.in-Chain.is ∙ view_chain c.in-Chain.field-0.value c.in-Chain.field-1 c.in-Chain.field-0 refl) c.held-in-Chain.ensures

pub effects-returns-in_ok-second-in-Choice : goal.effects-returns-in_ok-second-in-Choice
effects-returns-in_ok-second-in-Choice t c =
    rw (c.in-Choice.is, ← c.deref-in-Choice.ensures, ← c.deref-in-Choice-2.ensures, ← c.deref-in-Choice-3.ensures)
    (also c.add.result _ _ (choice_dropped (scope_of c.args.names.now) (output_of c.args.lowering.now) _ _ _ _ _ _ (tree.view_expr c.deref-in-Choice-2.result.now) (tree.view_expr c.deref-in-Choice-3.result.now) _ _ _ c.in_ok-cond-in-Choice.ensures c.in_ok-first-in-Choice.ensures c.in_ok-second-in-Choice.ensures c.choose.ensures) c.add.ensures)

pub effects-returns-in_ok-_to-in-Assign : goal.effects-returns-in_ok-_to-in-Assign
effects-returns-in_ok-_to-in-Assign t c =
    rw (ap tree.view_form c.in-Assign.is ∙ view_assign c.in-Assign.p c.in-Assign.a.value c.in-Assign.a refl)
    (assign_dropped (scope_of c.args.names.now) (output_of c.args.lowering.now) _ (tree.view_place c.in-Assign.p) (tree.view_expr c.in-Assign.a.value) _ _ c.args.e.now.span c.args.e.now.ty _ c.in_ok-_to-in-Assign.ensures (ap tree.view_expr c.deref-in-Assign.ensures) c.is_struct.ensures)

pub effects-returns-in_ok-_to-in-Compound : goal.effects-returns-in_ok-_to-in-Compound
effects-returns-in_ok-_to-in-Compound t c =
    rw (ap tree.view_form c.in-Compound.is ∙ view_compound c.in-Compound.p _ c.in-Compound.step c.in-Compound.operand.value c.in-Compound.operand refl)
    (compound_dropped (scope_of c.args.names.now) (output_of c.args.lowering.now) _ _ _ (tree.view_place c.in-Compound.p) c.args.e.now.span c.in-Compound.step (tree.view_expr c.in-Compound.operand.value) _ _ c.args.e.now.span c.args.e.now.ty _ _ _ _ c.in_ok-to-in-Compound.ensures c.fixes_left.ensures (ap tree.view_expr c.deref-in-Compound.ensures)
    c.in_ok-v-in-Compound.ensures (ap tree.view_expr c.deref-in-Compound-2.ensures) (c.in_ok-_to-in-Compound.ensures (output_of c.args.lowering.now) _))

pub effects-returns-in_ok-_to-in-Step : goal.effects-returns-in_ok-_to-in-Step
effects-returns-in_ok-_to-in-Step t c =
    rw (ap tree.view_form c.in-Step.is ∙ view_increment c.in-Step.p _ c.in-Step.back _)
    (counted_dropped (scope_of c.args.names.now) (output_of c.args.lowering.now) _ (tree.view_place c.in-Step.p) c.args.e.now.span c.in-Step.back false c.args.e.now.span c.args.e.now.ty _ (c.in_ok-_to-in-Step.ensures (output_of c.args.lowering.now) _ c.in_ok-to-in-Step.ensures))

pub effects-returns-in_ok-values-in-Call : goal.effects-returns-in_ok-values-in-Call
effects-returns-in_ok-values-in-Call t c =
    rw (ap tree.view_form c.in-Call.is ∙ view_call c.in-Call.f c.in-Call.all, ← c.deref-in-Call.ensures.value)
    (c.call_alone.ensures (output_of c.args.lowering.now) _ c.in_ok-values-in-Call.ensures)

-- ---- objects and parts

pub object-returns-in-Read : goal.object-returns-in-Read
object-returns-in-Read t c = rw (ap tree.view_form c.in-Read.is ∙ view_read c.in-Read.p) c.place.ensures

pub object-returns-in-Assign : goal.object-returns-in-Assign
object-returns-in-Assign t c =
    rw (ap tree.view_form c.in-Assign.is ∙ view_assign c.in-Assign.p c.in-Assign.a.value c.in-Assign.a refl)
    (assign_object (scope_of c.args.names.now) c.assignment.result (output_of c.args.lowering.now) _ (tree.view_place c.in-Assign.p) (tree.view_expr c.in-Assign.a.value) _ _ c.args.e.now.span c.args.e.now.ty (ap tree.view_expr c.deref.ensures) c.is_struct.ensures c.assignment.ensures)

pub checked-returns : goal.checked-returns
checked-returns t c = also _ _ _ (checked_is _ _ _ _ _ c.in_ok-at.ensures) c.add.ensures

pub held-returns : goal.held-returns
held-returns t c = held_dropped (scope_of c.args.names.now) (output_of c.args.lowering.now) _ _ (tree.view_expr c.args.e.now) _ _ _ c.in_ok-v.ensures c.type_of.ensures c.holding.ensures c.in_ok-_k.ensures.output

pub linked-returns : goal.linked-returns
linked-returns t c = λ o whole far g h.
    link_is (scope_of c.args.names.now) c.stepped.result o _ _ _ c.args.link.now.span c.args.link.now.ty c.args.link.now.step (tree.view_expr c.args.link.now.operand) whole c.args.keeper far _ _ _ _ g h c.holds_left.ensures (c.in_ok-left.ensures o) c.in_ok-right.ensures c.stepped.ensures

pub operand_of-returns : goal.operand_of-returns
operand_of-returns t c = λ o far d.
    let low = value_in (scope_of c.args.names.now) (tree.view_expr c.args.operand.now.operand) (past (next o) far.temps) in
    operand_typed _ o _ _ _ _ _ _ far low c.type_of-ty.ensures
    (c.with_operand.ensures o (output_of c.args.lowering.now) far low d c.begin-outer.ensures.outer
    (operand_begun (scope_of c.args.names.now) o (output_of c.args.lowering.now) _ _ (tree.view_expr c.args.operand.now.operand) far _ d c.begin-outer.ensures.output c.in_ok-v.ensures))

pub assignment-returns-in_ok-of : goal.assignment-returns-in_ok-of
assignment-returns-in_ok-of t c =
    copied_in (scope_of c.args.names.now) c.copied.result (output_of c.args.lowering.now) _ _ _ (tree.view_place c.args.p.now) (tree.view_expr c.args.a.now) c.args.used _ c.args.whole _ _
    c.in_ok-to.ensures c.fixes_left.ensures c.if-whole.true c.in_ok-of.ensures (c.copied.ensures (output_of c.args.lowering.now) _)

pub assignment-returns-in_ok-v : goal.assignment-returns-in_ok-v
assignment-returns-in_ok-v t c =
    given_in (scope_of c.args.names.now) c.given.result (output_of c.args.lowering.now) _ _ _ (tree.view_place c.args.p.now) (tree.view_expr c.args.a.now) c.args.used _ c.args.whole _ _
    c.in_ok-to.ensures c.fixes_left.ensures c.if-whole.false c.in_ok-v.ensures (c.given.ensures (output_of c.args.lowering.now) _)

pub target-returns : goal.target-returns
target-returns t c = c.fixed_if.ensures (output_of c.args.lowering.now) _ c.in_ok-to.ensures

pub argument-returns : goal.argument-returns
argument-returns t c = c.held_if.ensures (output_of c.args.lowering.now) _ _ c.in_ok-v.ensures (ap (λ z. record { ty = z; holds = Some c.args.e.now.span }) (sym c.type_of.ensures) ∙ sym c.holding.ensures)

-- ---- places

pub place-returns : goal.place-returns
place-returns t c = rw (← c.deref.ensures.value) (c.part.ensures (output_of c.args.lowering.now) _ _ c.in_ok-whole.ensures)

pub stepped_to-returns-in-Field : goal.stepped_to-returns-in-Field
stepped_to-returns-in-Field t c = λ o root before low h. rw c.in-Field.is (field_step (scope_of c.args.names.now) c.field.result o _ c.in-Field.k low _ h (c.field.ensures low))

pub item-returns : goal.item-returns
item-returns t c = λ o root before low h.
    item_is (scope_of c.args.names.now) c.element.result o _ _ _ c.args.span (tree.view_expr c.args.index.now) root before low _ _ _ _ _ _ _ h (ap not c.is_pure-is_held.ensures) c.decayed_type-ty.ensures c.holding.ensures c.decay-first.ensures
    (c.in_ok-base.ensures o) c.in_ok-v.ensures c.element.ensures

pub root-returns-in-Local : goal.root-returns-in-Local
root-returns-in-Local t c = rw c.in-Local.is (standing_is _ _ _ refl refl (c.variable.ensures (next (output_of c.args.lowering.now))))

pub root-returns-in-Global : goal.root-returns-in-Global
root-returns-in-Global t c = rw c.in-Global.is (standing_is _ _ _ refl refl (c.global.ensures (next (output_of c.args.lowering.now))))

pub root-returns-in_ok-v-in-Deref : goal.root-returns-in_ok-v-in-Deref
root-returns-in_ok-v-in-Deref t c =
    rw c.in-Deref.is (behind_is (scope_of c.args.names.now) c.behind.result (output_of c.args.lowering.now) _ c.in-Deref.span (tree.view_expr c.in-Deref.pointer.value) _ _ _ c.in_ok-v-in-Deref.ensures (ap tree.view_expr c.deref.ensures) (ap tree.view_expr c.deref-in-Deref.ensures) c.behind.ensures)

-- ---- loops

pub chained-loop-link-init : goal.chained-loop-link-init
chained-loop-link-init t c = λ o whole far s g h. links_begin _ _ whole s far o _ _ _ g h

pub chained-loop-link-preserved : goal.chained-loop-link-preserved
chained-loop-link-preserved t c = λ o whole far s g h.
    let sf = c.loop-link.invariant o whole far s g h in
    let split = ap (λ xs. tree.link_trees (map tree.view_link xs)) (drop_step_at c.args.links.now c.loop-link.link-index c.link-item.result c.loop-link-test.true c.link-item.is) in
    rw c.holding-keeper.ensures (links_step (scope_of c.args.names.now) _ _ _ whole s _ far o _ _ _ _ _ _ _ _ _ split sf (c.in_ok-so_far.ensures o _ sf.far sf.gives sf.holds))

pub chained-returns : goal.chained-returns
chained-returns t c = λ o whole far s g h.
    links_end (scope_of c.args.names.now) _ _ whole s _ far o _ _ _ (ap (λ xs. tree.link_trees (map tree.view_link xs)) (drop_all c.loop-link.link-index c.args.links.now c.loop-link-test.false)) (c.loop-link.invariant o whole far s g h)

pub operands-loop-operand-init : goal.operands-loop-operand-init
operands-loop-operand-init t c = λ o far d. operands_begin _ _ _ _ far o _ d

pub operands-loop-operand-preserved : goal.operands-loop-operand-preserved
operands-loop-operand-preserved t c = λ o far d.
    let sf = c.loop-operand.invariant o far d in
    let split = ap (λ xs. tree.operand_trees (map tree.view_operand xs)) (drop_step_at c.args.all.now c.loop-operand.operand-index c.operand-item.result c.loop-operand-test.true c.operand-item.is) in
    operands_step (scope_of c.args.names.now) _ _ _ _ _ far o _ _ _ _ split sf (c.in_ok-operand_of.ensures o sf.far sf.does)

pub operands-returns : goal.operands-returns
operands-returns t c = λ o far d.
    operands_end (scope_of c.args.names.now) _ _ _ _ far o _ (ap (λ xs. tree.operand_trees (map tree.view_operand xs)) (drop_all c.loop-operand.operand-index c.args.all.now c.loop-operand-test.false)) (c.loop-operand.invariant o far d)

pub part-loop-step-init : goal.part-loop-step-init
part-loop-step-init t c = λ o root low h. steps_begin _ _ root low o _ _ h

pub part-loop-step-preserved : goal.part-loop-step-preserved
part-loop-step-preserved t c = λ o root low h.
    let sf = c.loop-step.invariant o root low h in
    let split = ap (λ xs. tree.step_trees (map tree.view_step xs)) (drop_step_at c.args.steps.now c.loop-step.step-index c.step-item.result c.loop-step-test.true c.step-item.is) in
    steps_step (scope_of c.args.names.now) _ _ _ root low o _ _ _ _ _ split sf (c.in_ok-at.ensures o root sf.before sf.far sf.finds)

pub part-returns : goal.part-returns
part-returns t c = λ o root low h.
    steps_end (scope_of c.args.names.now) _ _ root low o _ _ (ap (λ xs. tree.step_trees (map tree.view_step xs)) (drop_all c.loop-step.step-index c.args.steps.now c.loop-step-test.false)) (c.loop-step.invariant o root low h)

pub arguments-loop-i-preserved : goal.arguments-loop-i-preserved
arguments-loop-i-preserved t c =
    let split = ap (λ xs. tree.expr_trees (map tree.view_expr xs)) (drop_step_at c.args.all.now c.loop-i.i c.index-all-i.result c.loop-i-test.true c.index-all-i.is) in
    arguments_step (scope_of c.args.names.now) (tree.view_expr c.index-all-i.result) _ _ _ _ (output_of c.args.lowering.now) _ _ _ _ _ split (flip _ _ (c.pure_from-from.ensures (c.loop-i.i + 1))) c.loop-i.invariant c.in_ok-argument.ensures
    (ap (map view_expr) c.in_ok-push.ensures.items ∙ map-append view_expr c.loop-i.values.items (c.in_ok-argument.field-0 ∷ []))

pub arguments-returns : goal.arguments-returns
arguments-returns t c =
    arguments_end (scope_of c.args.names.now) _ _ (output_of c.args.lowering.now) _ _ (ap (λ xs. tree.expr_trees (map tree.view_expr xs)) (drop_all c.loop-i.i c.args.all.now c.loop-i-test.false)) c.loop-i.invariant
