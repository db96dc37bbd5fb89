-- Shifts, moved pointers and comparisons of pointers, as links of chains.
use Rattle.std.proofs.Common.{◌≡◌, ◌∙◌, refl, ap, sym, subst, Bool, true, false, not, Option, Some, None, if◌then◌else◌}
use Rattle.std.specs.Prelude.{IsTrue, ◌&&◌, is_some}
use Rattle.pt_base.specs.declared.int_type.IntType.{IntType}
use Rattle.pt_base.specs.declared.span.Span.{Span}
use Rattle.pt_base.specs.IntTypes.{promoted, usual}
use Rattle.pt_base.proofs.Booleans.{both_hold_first, both_hold_second, true_not_false}
use Rattle.pt_int.specs.declared.operator.BinOp.{BinOp}
use Rattle.pt_int.specs.declared.operator.BinOp.TheVariants.{Mul, Div, Rem, Add, Sub, Shl, Shr, Lt, Gt, Le, Ge, Eq, Ne, And, Xor, Or}
use Rattle.pt_int.specs.Operator.{is_shift, binary_type}
use Rattle.pt_tree.specs.declared.operator.BinaryOp.{BinaryOp}
use Rattle.pt_tree.specs.declared.operator.BinaryOp.TheVariants.{Add as add_op, Subtract}
use Rattle.pt_tree.specs.declared.signature.Elem.{Elem}
use Rattle.pt_tree.specs.ExpressionTree as e
use Rattle.runs.specs.Pointers.{moved, directed}
use Rattle.type_rules.specs.declared.types.Type.TheVariants as ty
use Rattle.type_rules.specs.declared.types.Value.{Value}
use Rattle.type_rules.specs.declared.operators.Rule.TheVariants as rule
use Rattle.type_rules.specs.Types.{value_type}
use Rattle.type_rules.specs.Operators.{binary_rule}
use Rattle.typed_tree.specs.declared.types.VarTy.{VarTy}
use Rattle.typed_tree.specs.declared.types.VarTy.TheVariants as v
use Rattle.typed_tree.specs.ExpressionTree as t
use Rattle.typed_tree.specs.declared.link.LinkStep.TheVariants as link_step
use Rattle.typed_tree.specs.ExpressionTree.{typed}
use Rattle.typed_tree.specs.TypeTests.{integer_of, pointee_of, same_type, same_int}
use Rattle.typed_tree.specs.TypeRules.{arithmetic_type, shift_type, moved_type, is_promoted}
use Rattle.typed_tree.specs.WellFormedExpression.{ty_of}
use Rattle.check_declarations.specs.Structs.{Structs}
use Rattle.check_expressions.specs.Environment.{Env}
use Rattle.check_expressions.specs.Conversions.{as_promoted, to_int}
use Rattle.check_expressions.specs.Links.{link_rule, logical_of, rule_faults, step_of, integer_op, converted_by, is_shift_left, is_subtraction}
use Rattle.source_meaning.specs.Values as m
use Rattle.source_meaning.specs.Values.{holds, cell_of, stepped}
use Rattle.source_meaning.specs.Expressions as x
use Rattle.pt_core.specs.CodeTree.{ExprTree, binary, move}
use Rattle.pt_core.specs.Types.{type_of}
use Rattle.pt_core.specs.Values as w
use Rattle.pt_core.specs.Values.{Stop, ◌>>?◌, at_span, numbered, pointed, told}
use Rattle.pt_core.specs.WellFormedExpression.{takes_two}
use Rattle.half_trees.specs.Expressions as h
use Rattle.half_trees.specs.Expressions.{operator_of}
use Rattle.half_meaning_law.specs.Relations.{Scene, context_of, core_cell, CellFits, reach_of}
use Rattle.half_meaning_law.specs.CForms.{points_const, with_const, c_type}
use Rattle.half_meaning_law.specs.Known.{type_as}
use Rattle.half_meaning_law.proofs.Operators.{Told, computed, shift_told, moved_told, number_same}
use Rattle.typed_tree.proofs.SameTypes.{equal_types, equal_ints}
use Rattle.half_meaning_law.proofs.Types.{promoted_is, to_int_same}
use Rattle.half_meaning_law.proofs.Judged.{Held}
use Rattle.half_meaning_law.proofs.Links.{ValueOf, OpFits, pair_held, integer_back, no_logical, val, rule_as, as_integer, tree_integer, binary_fits}
use Rattle.half_meaning_law.proofs.PlaceLaw.{pointer_type}
use Rattle.half_meaning_law.proofs.Numbers.{integer_type}

-- ---- shifts

-- the operand of a shift is promoted already
promoted_stays : (s : Scene) (a : ExprTree) (to : IntType) (own : Value) (y : t.ExprTree) → type_of s.context a ≡ v.Int to → promoted to ≡ to → ValueOf s a own → ty_of y ≡ Some (c_type s.context a) → as_promoted own.ty y ≡ y
unfolding as_promoted
promoted_stays s a to own y is whole val h =
    ap (λ z. as_promoted z y) (as_integer s a to own is val) ∙ ap (λ z. to_int z y) whole ∙ to_int_same to y (tree_integer s a to y is h)

shift_fit : (s : Scene) (left : Bool) (to u : IntType) (a b : ExprTree) (sp : Span) → type_of s.context a ≡ v.Int to → type_of s.context b ≡ v.Int u → promoted to ≡ to → promoted u ≡ u →
    is_shift (m.shift_of left) ≡ true → is_shift_left (m.shift_of left) ≡ left → binary_type (m.shift_of left) to ≡ to → ((n k : Bool) → link_rule false (operator_of (m.shift_of left)) (val (ty.Int to) n) (val (ty.Int u) k) ≡ rule.Shift to) →
    OpFits s a b (binary (m.shift_of left) to a b sp) (operator_of (m.shift_of left))
unfolding rule_faults converted_by step_of
shift_fit s left to u a b sp is is' whole whole' shifts same result rules = record {
  rule = rule.Shift to;
  is = λ p q k l. rule_as (operator_of (m.shift_of left)) p q (ty.Int to) (ty.Int u) (rule.Shift to) (as_integer s a to p is k) (as_integer s b u q is' l) (rules p.null q.null);
  fine = λ p q. refl;
  typed = λ p q k. ap ty.Int (sym result);
  whole = refl;
  left = λ own other y p h. promoted_stays s a to own y is whole p h;
  right = λ own other y p h. promoted_stays s b u own y is' whole' p h;
  combine = computed sp (m.shift_of left) to;
  asks = λ blocks. refl;
  steps = λ y z p q.
      subst (λ o. Told s None (stepped (x.sizes (context_of s)) (c_type s.context a) (step_of o (rule.Shift to)) y z) (computed sp (m.shift_of left) to (core_cell s y) (core_cell s z))) (sym (integer_back (m.shift_of left)))
      (subst (λ o. Told s None (stepped (x.sizes (context_of s)) (c_type s.context a) (link_step.Shift o) y z) (computed sp (m.shift_of left) to (core_cell s y) (core_cell s z))) (sym same)
      (subst (λ o. Told s None (stepped (x.sizes (context_of s)) o (link_step.Shift left) y z) (computed sp (m.shift_of left) to (core_cell s y) (core_cell s z))) (sym (ap (with_const (points_const s.context a)) is))
      (shift_told s (x.sizes (context_of s)) sp left to y z whole shifts)));
}

shift_left_fits : (s : Scene) (to u : IntType) (a b : ExprTree) (sp : Span) → type_of s.context a ≡ v.Int to → type_of s.context b ≡ v.Int u → promoted to ≡ to → promoted u ≡ u → OpFits s a b (binary Shl to a b sp) (operator_of Shl)
unfolding link_rule logical_of binary_rule is_shift_left
shift_left_fits s to u a b sp is is' whole whole' = shift_fit s true to u a b sp is is' whole whole' refl refl refl (λ n k. ap rule.Shift whole)

shift_right_fits : (s : Scene) (to u : IntType) (a b : ExprTree) (sp : Span) → type_of s.context a ≡ v.Int to → type_of s.context b ≡ v.Int u → promoted to ≡ to → promoted u ≡ u → OpFits s a b (binary Shr to a b sp) (operator_of Shr)
unfolding link_rule logical_of binary_rule is_shift_left
shift_right_fits s to u a b sp is is' whole whole' = shift_fit s false to u a b sp is is' whole whole' refl refl refl (λ n k. ap rule.Shift whole)

-- ---- all operators of integers

-- what is asked of the operands of a shift
shift_types : (t : IntType) (u : Option IntType) → IsTrue (is_some (shift_type (Some t) u)) → (z : IntType) × (u ≡ Some z) × (promoted t ≡ t) × (promoted z ≡ z)
shift_types t None h = true_not_false (sym h)
shift_types t (Some z) h = go (is_promoted t && is_promoted z) refl h
  where
    go : (o : Bool) → (is_promoted t && is_promoted z) ≡ o → IsTrue (is_some (if o then Some (v.Int t) else None)) → (k : IntType) × (Some z ≡ Some k) × (promoted t ≡ t) × (promoted k ≡ k)
    go true e h = (z, refl, promoted_is t (both_hold_first (is_promoted t) (is_promoted z) e), promoted_is z (both_hold_second (is_promoted t) (is_promoted z) e))
    go false e h = true_not_false (sym h)

-- what is asked of the others
arithmetic_types : (op : BinOp) (t : IntType) (u : Option IntType) → IsTrue (is_some (arithmetic_type op t (Some t) u)) → (u ≡ Some t) × (usual t t ≡ t)
arithmetic_types op t None h = true_not_false (sym h)
arithmetic_types op t (Some z) h = go (not (is_shift op) && (same_int (usual t t) t && same_int z t)) refl h
  where
    go : (o : Bool) → (not (is_shift op) && (same_int (usual t t) t && same_int z t)) ≡ o → IsTrue (is_some (if o then Some (v.Int (binary_type op t)) else None)) → (Some z ≡ Some t) × (usual t t ≡ t)
    go true e h =
        let both = both_hold_second (not (is_shift op)) (same_int (usual t t) t && same_int z t) e in
        (ap Some (equal_ints z t (both_hold_second (same_int (usual t t) t) (same_int z t) both)), equal_ints (usual t t) t (both_hold_first (same_int (usual t t) t) (same_int z t) both))
    go false e h = true_not_false (sym h)

integer_is : (u : VarTy) (t : IntType) → integer_of (Some u) ≡ Some t → u ≡ v.Int t
integer_is (v.Int k) t h = ap (λ z. v.Int (unwrap z)) h
  where
    unwrap : Option IntType → IntType
    unwrap None = k
    unwrap (Some z) = z
integer_is (v.Struct n) t h = cc
integer_is (v.Array elem count) t h = cc
integer_is (v.Pointer elem g) t h = cc

-- what the two operands of an operator at a type have to be
abbrev AreTaken : BinOp → IntType → VarTy → Type 0
AreTaken op t u = IsTrue (is_some (if is_shift op then shift_type (Some t) (integer_of (Some u)) else arithmetic_type op t (Some t) (integer_of (Some u))))

plain_fits : (s : Scene) (op : BinOp) (to : IntType) (a b : ExprTree) (sp : Span) → is_shift op ≡ false → type_of s.context a ≡ v.Int to → AreTaken op to (type_of s.context b) → OpFits s a b (binary op to a b sp) (operator_of op)
plain_fits s op to a b sp plain is ok =
    let h = arithmetic_types op to (integer_of (Some (type_of s.context b))) (subst (λ z. IsTrue (is_some (if z then shift_type (Some to) (integer_of (Some (type_of s.context b))) else arithmetic_type op to (Some to) (integer_of (Some (type_of s.context b)))))) plain ok) in
    binary_fits s op to a b sp plain h.1 is (integer_is (type_of s.context b) to h.0)

taken_fits : (s : Scene) (op : BinOp) (to : IntType) (a b : ExprTree) (sp : Span) → type_of s.context a ≡ v.Int to → AreTaken op to (type_of s.context b) → OpFits s a b (binary op to a b sp) (operator_of op)
taken_fits s Shl to a b sp is ok = let h = shift_types to (integer_of (Some (type_of s.context b))) ok in shift_left_fits s to h.0 a b sp is (integer_is (type_of s.context b) h.0 h.1) h.2 h.3
taken_fits s Shr to a b sp is ok = let h = shift_types to (integer_of (Some (type_of s.context b))) ok in shift_right_fits s to h.0 a b sp is (integer_is (type_of s.context b) h.0 h.1) h.2 h.3
taken_fits s Mul to a b sp is ok = plain_fits s Mul to a b sp refl is ok
taken_fits s Div to a b sp is ok = plain_fits s Div to a b sp refl is ok
taken_fits s Rem to a b sp is ok = plain_fits s Rem to a b sp refl is ok
taken_fits s Add to a b sp is ok = plain_fits s Add to a b sp refl is ok
taken_fits s Sub to a b sp is ok = plain_fits s Sub to a b sp refl is ok
taken_fits s Lt to a b sp is ok = plain_fits s Lt to a b sp refl is ok
taken_fits s Gt to a b sp is ok = plain_fits s Gt to a b sp refl is ok
taken_fits s Le to a b sp is ok = plain_fits s Le to a b sp refl is ok
taken_fits s Ge to a b sp is ok = plain_fits s Ge to a b sp refl is ok
taken_fits s Eq to a b sp is ok = plain_fits s Eq to a b sp refl is ok
taken_fits s Ne to a b sp is ok = plain_fits s Ne to a b sp refl is ok
taken_fits s And to a b sp is ok = plain_fits s And to a b sp refl is ok
taken_fits s Xor to a b sp is ok = plain_fits s Xor to a b sp refl is ok
taken_fits s Or to a b sp is ok = plain_fits s Or to a b sp refl is ok

pub binary_held : (s : Scene) (env : Env) (structs : Structs) (op : BinOp) (to : IntType) (a b : ExprTree) (sp : Span) (ta tb : e.ExprTree) → IsTrue (takes_two op to (type_of s.context a) (type_of s.context b)) →
    Held s env structs a ta → Held s env structs b tb → Held s env structs (binary op to a b sp) (h.linked (operator_of op) ta tb)
binary_held s env structs op to a b sp ta tb ok left right =
    pair_held s env structs a b (binary op to a b sp) (operator_of op) ta tb (no_logical op)
    (taken_fits s op to a b sp (equal_types (type_of s.context a) (v.Int to) (both_hold_first (same_type (type_of s.context a) (v.Int to)) _ ok)) (both_hold_second (same_type (type_of s.context a) (v.Int to)) _ ok)) left right

-- ---- pointers

pub as_pointer : (s : Scene) (a : ExprTree) (elem : Elem) (g : Bool) (own : Value) → type_of s.context a ≡ v.Pointer elem g → ValueOf s a own → own.ty ≡ ty.Pointer elem (points_const s.context a)
as_pointer s a elem g own is val = val.typed ∙ ap (λ z. type_as (with_const (points_const s.context a) z)) is

-- a pointer moved by a number
move_fits : (s : Scene) (a b : ExprTree) (back : Bool) (sp : Span) (elem : Elem) (g : Bool) (u : IntType) (op : BinaryOp) → type_of s.context a ≡ v.Pointer elem g → type_of s.context b ≡ v.Int u → is_subtraction (integer_op op) ≡ back →
    ((f n k : Bool) → link_rule false op (val (ty.Pointer elem f) n) (val (ty.Int u) k) ≡ rule.Move) → OpFits s a b (move a b back sp) op
unfolding rule_faults converted_by step_of
move_fits s a b back sp elem g u op is is' same rules = record {
  rule = rule.Move;
  is = λ p q k l. rule_as op p q (ty.Pointer elem (points_const s.context a)) (ty.Int u) rule.Move (as_pointer s a elem g p is k) (as_integer s b u q is' l) (rules (points_const s.context a) p.null q.null);
  fine = λ p q. refl;
  typed = λ p q k. k.typed;
  whole = subst (λ z. value_type (type_as (with_const (points_const s.context a) z)) false ≡ type_as (with_const (points_const s.context a) z)) (sym is) refl;
  left = λ own other y p h. refl;
  right = λ own other y p h. refl;
  combine = λ p q. pointed (at_span sp (moved (directed back (w.number_in q)) (w.target_of p)));
  asks = λ blocks. refl;
  steps = λ y z p q.
      subst (λ o. Told s (reach_of s (type_of s.context a)) (m.moved_cell (directed o (m.number_in z)) y) (pointed (at_span sp (moved (directed back (w.number_in (core_cell s z))) (w.target_of (core_cell s y)))))) (sym same)
      (subst (λ o. Told s (reach_of s (type_of s.context a)) (m.moved_cell (directed back (m.number_in z)) y) (pointed (at_span sp (moved (directed back o) (w.target_of (core_cell s y)))))) (sym (number_same s z))
      (subst (λ o. Told s o (m.moved_cell (directed back (m.number_in z)) y) (pointed (at_span sp (moved (directed back (m.number_in z)) (w.target_of (core_cell s y)))))) (sym (ap (reach_of s) is))
      (moved_told s sp (directed back (m.number_in z)) y (subst (λ o. CellFits s o y) (ap (reach_of s) is) p))));
}

moved_types : (c d : VarTy) → IsTrue (is_some (moved_type (Some c) (Some d))) → IsTrue (is_some (pointee_of (Some c))) × IsTrue (is_some (integer_of (Some d)))
moved_types c d h = go (is_some (pointee_of (Some c)) && is_some (integer_of (Some d))) refl h
  where
    go : (o : Bool) → (is_some (pointee_of (Some c)) && is_some (integer_of (Some d))) ≡ o → IsTrue (is_some (if o then Some c else None)) → IsTrue (is_some (pointee_of (Some c))) × IsTrue (is_some (integer_of (Some d)))
    go true e h = (both_hold_first (is_some (pointee_of (Some c))) (is_some (integer_of (Some d))) e, both_hold_second (is_some (pointee_of (Some c))) (is_some (integer_of (Some d))) e)
    go false e h = true_not_false (sym h)

pub move_held : (s : Scene) (env : Env) (structs : Structs) (a b : ExprTree) (back : Bool) (sp : Span) (ta tb : e.ExprTree) → IsTrue (is_some (moved_type (Some (type_of s.context a)) (Some (type_of s.context b)))) →
    Held s env structs a ta → Held s env structs b tb → Held s env structs (move a b back sp) (h.linked (if back then Subtract else add_op) ta tb)
unfolding link_rule logical_of binary_rule integer_op is_subtraction
move_held s env structs a b true sp ta tb ok left right =
    let h = moved_types (type_of s.context a) (type_of s.context b) ok in
    let p = pointer_type (type_of s.context a) h.0 in
    let q = integer_type (type_of s.context b) h.1 in
    pair_held s env structs a b (move a b true sp) Subtract ta tb refl (move_fits s a b true sp p.0 p.1 q.0 Subtract p.2 q.1 refl (λ f n k. refl)) left right
move_held s env structs a b false sp ta tb ok left right =
    let h = moved_types (type_of s.context a) (type_of s.context b) ok in
    let p = pointer_type (type_of s.context a) h.0 in
    let q = integer_type (type_of s.context b) h.1 in
    pair_held s env structs a b (move a b false sp) add_op ta tb refl (move_fits s a b false sp p.0 p.1 q.0 add_op p.2 q.1 refl (λ f n k. refl)) left right
