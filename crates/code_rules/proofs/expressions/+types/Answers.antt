use Rattle.std.specs.Bool.{then_some}
use Rattle.std.specs.Int.{w128}
use Rattle.std.proofs.lemmas.Int.{to_z-of_z}
use Rattle.pt_int.specs.Conversion.{is_in_range}
use Rattle.typed_tree.specs.declared.types.VarTy.TheVariants.{Int}
use Rattle.std.proofs.Common.{FitsSigned, rules, ◌∙◌, ◌<◌, ◌≤◌, Some, None, true, ap, sym, refl, arith}
use Rattle.typed_tree.specs.TypeTests.{item_of}
use Rattle.pt_core.specs.declared.expression.Expr.{size-Expr}
use Rattle.pt_core.specs.CodeTree.{view_expr, view_place, view_root}
use Rattle.pt_core.proofs.Rows.{view_read, view_address, view_decay}
use Rattle.code_rules.specs.Parts.{is_number, joined, scalar, pointer_to}
use Rattle.code_rules.specs.Scopes.{context_of}
use Rattle.code_rules.specs.Typing.{rooted}
use Rattle.code_rules.proofs.TypingLaws.{of_equal, seen, number_seen, typed_constant, typed_read, typed_null, typed_decay, unary_typed, binary_typed, convert_typed, move_typed, compare_typed, difference_typed, address_typed, place_placed, deref_rooted, link_seen, unary_link, binary_link, convert_link, link_holds, link_fails}
use Rattle.code_rules.proofs.expressions.+types.Goals as goal

-- ---- expressions

pub expression_type-returns-in-Const : goal.expression_type-returns-in-Const
expression_type-returns-in-Const t c =
    let fits : FitsSigned w128 c.in-Const.value = search rules in
    of_equal (context_of c.args.scope.now) _ _ _ (ap view_expr c.in-Const.is)
    (c.constant_type.ensures ∙ ap (λ v. then_some (is_in_range c.in-Const.ty v) (Int c.in-Const.ty)) (to_z-of_z w128 c.in-Const.value fits)
    ∙ sym (typed_constant (context_of c.args.scope.now) c.in-Const.ty c.in-Const.value))

pub expression_type-returns-in-Read : goal.expression_type-returns-in-Read
expression_type-returns-in-Read t c =
    of_equal (context_of c.args.scope.now) _ _ _ (ap view_expr c.in-Read.is ∙ view_read c.in-Read.place)
    (c.value_type.ensures ∙ ap scalar c.place_type.ensures ∙ sym (typed_read (context_of c.args.scope.now) (view_place c.in-Read.place)))

pub expression_type-returns-in-Unary : goal.expression_type-returns-in-Unary
expression_type-returns-in-Unary t c =
    of_equal (context_of c.args.scope.now) _ _ _ (ap view_expr c.in-Unary.is)
    (unary_typed (context_of c.args.scope.now) c.in-Unary.op c.in-Unary.ty _ _ c.number_fits.result _
    (number_seen (context_of c.args.scope.now) (Some c.in-Unary.ty) _ _ c.number_fits.result c.deref.ensures c.number_fits.ensures) c.prefixed.ensures)

pub expression_type-returns-in-Binary : goal.expression_type-returns-in-Binary
expression_type-returns-in-Binary t c =
    of_equal (context_of c.args.scope.now) _ _ _ (ap view_expr c.in-Binary.is)
    (binary_typed (context_of c.args.scope.now) c.in-Binary.op c.in-Binary.ty _ _ _ c.number_fits-fits.result c.expression_type.result _
    (number_seen (context_of c.args.scope.now) (Some c.in-Binary.ty) _ _ c.number_fits-fits.result c.deref-in-Binary.ensures c.number_fits-fits.ensures)
    (seen (context_of c.args.scope.now) _ _ _ c.deref-in-Binary-2.ensures c.expression_type.ensures) c.joined.ensures)

pub expression_type-returns-in-Convert : goal.expression_type-returns-in-Convert
expression_type-returns-in-Convert t c =
    of_equal (context_of c.args.scope.now) _ _ _ (ap view_expr c.in-Convert.is)
    (convert_typed (context_of c.args.scope.now) c.in-Convert.to _ c.number_fits-in-Convert.result _
    (number_seen (context_of c.args.scope.now) None _ _ c.number_fits-in-Convert.result c.deref-in-Convert.ensures c.number_fits-in-Convert.ensures) c.then_some.ensures)

pub expression_type-returns-in-Null : goal.expression_type-returns-in-Null
expression_type-returns-in-Null t c =
    of_equal (context_of c.args.scope.now) _ _ _ (ap view_expr c.in-Null.is) (c.null_type.ensures ∙ sym (typed_null (context_of c.args.scope.now) c.in-Null.elem))

pub expression_type-returns-in-Addr : goal.expression_type-returns-in-Addr
expression_type-returns-in-Addr t c =
    of_equal (context_of c.args.scope.now) _ _ _ (ap view_expr c.in-Addr.is ∙ view_address c.in-Addr.place)
    (address_typed (context_of c.args.scope.now) (view_place c.in-Addr.place) c.is_addressed.result c.place_type-in-Addr.result _ c.is_addressed.ensures c.place_type-in-Addr.ensures c.address_type.ensures)

pub expression_type-returns-in-Decay : goal.expression_type-returns-in-Decay
expression_type-returns-in-Decay t c =
    of_equal (context_of c.args.scope.now) _ _ _ (ap view_expr c.in-Decay.is ∙ view_decay c.in-Decay.place)
    (c.decayed_type.ensures ∙ ap (λ o. pointer_to (item_of o)) c.place_type-in-Decay.ensures ∙ sym (typed_decay (context_of c.args.scope.now) (view_place c.in-Decay.place)))

pub expression_type-returns-in-Move : goal.expression_type-returns-in-Move
expression_type-returns-in-Move t c =
    of_equal (context_of c.args.scope.now) _ _ _ (ap view_expr c.in-Move.is)
    (move_typed (context_of c.args.scope.now) _ _ _ _ c.expression_type-pointer.result c.expression_type-in-Move.result _
    (seen (context_of c.args.scope.now) _ _ _ c.deref-in-Move.ensures c.expression_type-pointer.ensures)
    (seen (context_of c.args.scope.now) _ _ _ c.deref-in-Move-2.ensures c.expression_type-in-Move.ensures) c.moved.ensures)

pub expression_type-returns-in-Compare : goal.expression_type-returns-in-Compare
expression_type-returns-in-Compare t c =
    of_equal (context_of c.args.scope.now) _ _ _ (ap view_expr c.in-Compare.is)
    (compare_typed (context_of c.args.scope.now) c.in-Compare.op _ _ _ c.expression_type-left.result c.expression_type-in-Compare.result _
    (seen (context_of c.args.scope.now) _ _ _ c.deref-in-Compare.ensures c.expression_type-left.ensures)
    (seen (context_of c.args.scope.now) _ _ _ c.deref-in-Compare-2.ensures c.expression_type-in-Compare.ensures) c.compared.ensures)

pub expression_type-returns-in-Diff : goal.expression_type-returns-in-Diff
expression_type-returns-in-Diff t c =
    of_equal (context_of c.args.scope.now) _ _ _ (ap view_expr c.in-Diff.is)
    (difference_typed (context_of c.args.scope.now) _ _ _ c.expression_type-left-in-Diff.result c.expression_type-in-Diff.result _
    (seen (context_of c.args.scope.now) _ _ _ c.deref-in-Diff.ensures c.expression_type-left-in-Diff.ensures)
    (seen (context_of c.args.scope.now) _ _ _ c.deref-in-Diff-2.ensures c.expression_type-in-Diff.ensures) c.subtracted.ensures)

-- ---- chains

pub link_of-returns-in-Unary-clause-same : goal.link_of-returns-in-Unary-clause-same
link_of-returns-in-Unary-clause-same t c =
    link_seen (context_of c.args.scope.now) _ _ _ _ _ _ _ (ap view_expr c.in-Unary.is) c.prefixed.ensures c.deref.ensures (unary_link (context_of c.args.scope.now) c.in-Unary.op c.in-Unary.ty _ _)

pub link_of-returns-in-Binary-clause-same : goal.link_of-returns-in-Binary-clause-same
link_of-returns-in-Binary-clause-same t c =
    link_seen (context_of c.args.scope.now) _ _ _ _ _ _ _ (ap view_expr c.in-Binary.is)
    (c.joined.ensures ∙ ap (λ o. joined c.in-Binary.op c.in-Binary.ty true o) (seen (context_of c.args.scope.now) _ _ _ c.deref-in-Binary.ensures c.expression_type.ensures))
    c.deref-in-Binary-2.ensures (binary_link (context_of c.args.scope.now) c.in-Binary.op c.in-Binary.ty _ _ _)

pub link_of-returns-in-Convert-clause-same : goal.link_of-returns-in-Convert-clause-same
link_of-returns-in-Convert-clause-same t c =
    link_seen (context_of c.args.scope.now) _ _ _ _ _ _ _ (ap view_expr c.in-Convert.is) refl c.deref-in-Convert.ensures (convert_link (context_of c.args.scope.now) c.in-Convert.to _)

pub number_fits-returns-then-not-is_number : goal.number_fits-returns-then-not-is_number
number_fits-returns-then-not-is_number t c =
    link_fails (context_of c.args.scope.now) (view_expr c.loop-link.at.now) (view_expr c.in-Some.link.left.now) c.in-Some.link.whole c.in-Some.link.kind c.loop-link.kind c.is_number.result _ c.in-Some.ensures.same c.is_number.ensures c.if-not-is_number.true c.loop-link.invariant.same

pub number_fits-loop-link-preserved : goal.number_fits-loop-link-preserved
number_fits-loop-link-preserved t c =
    let small : size-Expr c.loop-link.at.now ≤ size-Expr c.args.e.now = c.loop-link.invariant.small in
    let smaller : size-Expr c.in-Some.link.left.now < size-Expr c.loop-link.at.now = c.in-Some.ensures.smaller in
    record {
      same = link_holds (context_of c.args.scope.now) (view_expr c.loop-link.at.now) (view_expr c.in-Some.link.left.now) c.in-Some.link.whole c.in-Some.link.kind c.loop-link.kind c.is_number.result _ c.in-Some.ensures.same c.is_number.ensures c.if-not-is_number.false c.loop-link.invariant.same;
      small = omega arith;
    }

pub number_fits-returns : goal.number_fits-returns
number_fits-returns t c =
    c.is_number-2.ensures ∙ ap (λ o. is_number c.loop-link.kind o) c.expression_type.ensures ∙ c.loop-link.invariant.same

-- ---- places

pub place_type-returns : goal.place_type-returns
place_type-returns t c =
    place_placed (context_of c.args.scope.now) (view_root c.args.place.now.root) _ _ c.root_type.result _ c.root_type.ensures c.deref.ensures.value c.along.ensures

pub root_type-returns-in-Deref : goal.root_type-returns-in-Deref
root_type-returns-in-Deref t c =
    deref_rooted (context_of c.args.scope.now) _ _ c.expression_type.result _ (seen (context_of c.args.scope.now) _ _ _ c.deref.ensures c.expression_type.ensures) c.pointed_type.ensures
    ∙ ap (λ r. rooted (context_of c.args.scope.now) (view_root r)) (sym c.in-Deref.is)
