-- What the type judgments make of operators, names and calls: null stands only where it may.
use Rattle.std.proofs.Common.{◌≡◌, refl, sym, subst, List, [], Bool, true, false, Option, Some, None, length, is_some, if◌then◌else◌}
use Rattle.std.specs.Prelude.{◌&&◌, ◌||◌, not, nat_eq}
use Rattle.pt_base.specs.declared.ids.FnId.{FnId}
use Rattle.pt_base.specs.declared.span.Span.{Span}
use Rattle.pt_base.proofs.Booleans.{both_hold, false_not_true}
use Rattle.pt_int.specs.declared.operator.UnOp.{UnOp}
use Rattle.pt_int.specs.declared.operator.UnOp.TheVariants.{Minus, Plus, Flip, Not}
use Rattle.pt_tree.specs.declared.operator.BinaryOp.{BinaryOp}
use Rattle.pt_tree.specs.declared.operator.BinaryOp.TheVariants as b
use Rattle.pt_tree.specs.declared.operator.PrefixOp.{PrefixOp}
use Rattle.pt_tree.specs.declared.operator.PrefixOp.TheVariants as op
use Rattle.pt_tree.specs.declared.signature.Elem.{Elem}
use Rattle.pt_tree.specs.declared.signature.Elem.TheVariants as elem
use Rattle.pt_tree.specs.declared.word.Word.{Word}
use Rattle.pt_tree.specs.declared.word.Constant.{Constant}
use Rattle.type_rules.specs.declared.types.Type.{«Type»}
use Rattle.type_rules.specs.declared.types.Type.TheVariants.{Bad, Void, Int, Struct, Array, Pointer}
use Rattle.type_rules.specs.declared.types.Value.{Value}
use Rattle.type_rules.specs.declared.operators.Rule.{Rule}
use Rattle.type_rules.specs.declared.operators.Rule.TheVariants as rule
use Rattle.type_rules.specs.declared.unary.UnaryRule.{UnaryRule}
use Rattle.type_rules.specs.declared.unary.UnaryRule.TheVariants as unary_rule
use Rattle.type_rules.specs.declared.conversions.CastRule.{CastRule}
use Rattle.type_rules.specs.declared.conversions.CastRule.TheVariants as cast
use Rattle.type_rules.specs.declared.conversions.ChoiceRule.{ChoiceRule}
use Rattle.type_rules.specs.declared.conversions.ChoiceRule.TheVariants as arms
use Rattle.type_rules.specs.declared.conversions.ConditionRule.{ConditionRule}
use Rattle.type_rules.specs.declared.conversions.ConditionRule.TheVariants as condition
use Rattle.type_rules.specs.Types.{is_bad, is_same_elem}
use Rattle.type_rules.specs.Operators.{judged, takes, arithmetic, shift, sum, difference, binary_rule, rule_type, index_rule, step_rule, deref_rule, at_right}
use Rattle.type_rules.specs.Conversions.{compound_rule, fit_rule, is_wrong, choice_rule, condition_rule, cast_rule}
use Rattle.typed_tree.specs.declared.link.LinkStep.{LinkStep}
use Rattle.typed_tree.specs.declared.link.LinkStep.TheVariants as link_step
use Rattle.typed_tree.specs.ExpressionTree.{ExprTree, typed, expr_trees, RootTree, deref, StepTree, step_trees, field}
use Rattle.check_declarations.specs.declared.fault.FaultKind.{FaultKind}
use Rattle.check_declarations.specs.declared.structs.FoundField.{FoundField}
use Rattle.check_declarations.specs.Structs.{Structs, field_named}
use Rattle.check_expressions.specs.declared.meaning.Callable.{Callable}
use Rattle.check_expressions.specs.declared.meaning.Meaning.{Meaning}
use Rattle.check_expressions.specs.declared.meaning.Meaning.TheVariants.{Function, Global, Local}
use Rattle.check_expressions.specs.Assignments.{misfits, stored_tree, stored_by, stored, is_compounding, operator_rule, step_rule_of, is_refused, object_value, compound_tree, compounded_by, compounded, assigned}
use Rattle.check_expressions.specs.Choices.{Placed, value_at, tree_at, arm_tree, choice_tree, chosen_by, chosen_when, chosen}
use Rattle.check_expressions.specs.Environment.{Env, find, function_at}
use Rattle.check_expressions.specs.Expressions.{meant, named_as, named, literal}
use Rattle.check_expressions.specs.Operands.{Elaboration, value, object, pointed, moved, element, Known, Made, root_of, steps_of, value_tree, value_of, faulty, plain}
use Rattle.check_expressions.specs.Postfixes.{moved_tree, element_tree, index_tree, indexed_by, indexed, part_by, dotted_as, dotted, arrow_as, arrow, argument_tree, call_tree, call_of, called_function, called_other, called, is_main}
use Rattle.check_expressions.specs.Prefixes as p
use Rattle.check_expressions.specs.Prefixes.{unary_operand, unary_rule_of, computed_by, computed, dereferenced_by, dereferenced, address_tree, address_of, address_of_pointer, addressed_as, addressed, stepped_by, stepped, prefixed, cast_target, cast_by, cast_to}
use Rattle.check_expressions.specs.Targets.{target_fault}
use Rattle.half_names_law.specs.SaidNulls.{is_null, is_compared, stands, arguments_stand, root_stands, steps_stand, is_placed}
use Rattle.half_names_law.proofs.SaidConversions.{Stands, KnownStands, not_null, placed_of, as_type_stands, as_type_placed, is_pointers, converted_stands, faulty_stands, plain_stands, root_of_stands, steps_of_stand, steps_more, place_of_stands, value_stands}

-- ---- names and constants

meant_stands : (env : Env) (s : Span) (m : Meaning) → KnownStands (meant env s m).operand
unfolding meant
meant_stands env s (Function f) = faulty_stands
meant_stands env s (Global g) = record { tree = (refl, refl); null = λ e. false_not_true e }
meant_stands env s (Local v) = record { tree = (refl, refl); null = λ e. false_not_true e }

pub named_stands : (env : Env) (w : Word) → KnownStands (named env w).operand
unfolding named named_as
named_stands env w = go (find env w.bytes)
  where
    go : (o : Option Meaning) → KnownStands (named_as env w.span o).operand
    go None = faulty_stands
    go (Some m) = meant_stands env w.span m

pub literal_stands : (c : Constant) → KnownStands (literal c)
unfolding literal
literal_stands c = record { tree = refl; null = λ e. refl }

-- ---- operators before an operand

unary_stands : (o : UnOp) (ty : «Type») (x : ExprTree) → stands x ≡ true → stands (unary_operand o ty x) ≡ true
unfolding unary_operand
unary_stands Minus ty x h = as_type_stands ty x h
unary_stands Plus ty x h = as_type_stands ty x h
unary_stands Flip ty x h = as_type_stands ty x h
unary_stands Not ty x h = h

computed_stands : (o : UnOp) (s at : Span) (k : Known) → KnownStands k → KnownStands (computed o s at k).operand
unfolding computed computed_by
computed_stands o s at k h = go (unary_rule_of o (value_of k).ty)
  where
    go : (r : UnaryRule) → KnownStands (computed_by r o s at (value_tree at k)).operand
    go unary_rule.Unknown = faulty_stands
    go unary_rule.Wrong = faulty_stands
    go (unary_rule.Gives ty) = record { tree = unary_stands o ty (value_tree at k) (value_stands at k h); null = λ e. false_not_true e }

dereferenced_stands : (s at : Span) (k : Known) → KnownStands k → KnownStands (dereferenced s at k).operand
unfolding dereferenced dereferenced_by
dereferenced_stands s at k h = go (deref_rule (value_of k).ty)
  where
    go : (r : UnaryRule) → KnownStands (dereferenced_by r (p.points_to_const (value_of k).ty) s at (value_tree at k)).operand
    go unary_rule.Unknown = faulty_stands
    go unary_rule.Wrong = faulty_stands
    go (unary_rule.Gives ty) = record { tree = value_stands at k h; null = λ e. false_not_true e }

address_stands : (s : Span) (e : Elem) (fixed : Bool) (t : Elaboration) → Stands t → stands (address_tree s e fixed t) ≡ true
unfolding address_tree
address_stands s e fixed (value x) h = place_of_stands (value x) h
address_stands s e fixed (object root steps) h = place_of_stands (object root steps) h
address_stands s e fixed (pointed q span) h = h
address_stands s e fixed (moved (typed span ty f)) h = h
address_stands s e fixed (element root steps at i span) h = both_hold (root_stands root && steps_stand (step_trees steps)) (stands i && true) (both_hold (root_stands root) (steps_stand (step_trees steps)) h.0 h.1) (both_hold (stands i) true h.2 refl)

either : (d : Bool) (m n : Made) → KnownStands m.operand → KnownStands n.operand → KnownStands (if d then m else n).operand
either true m n h k = h
either false m n h k = k

address_of_stands : (s at : Span) (e : Elem) (k : Known) → KnownStands k → KnownStands (address_of s at e k).operand
unfolding address_of
address_of_stands s at e k h = either k.designates _ _ (plain_stands (Pointer e k.fixed) (address_tree s e k.fixed k.tree) (address_stands s e k.fixed k.tree h.tree)) faulty_stands

pointer_stands : (d : Bool) (s at : Span) → KnownStands (address_of_pointer d s at).operand
unfolding address_of_pointer
pointer_stands true s at = faulty_stands
pointer_stands false s at = faulty_stands

addressed_stands : (s at : Span) (k : Known) → KnownStands k → KnownStands (addressed s at k).operand
unfolding addressed addressed_as
addressed_stands s at k h = go k.ty
  where
    go : (ty : «Type») → KnownStands (addressed_as ty s at k).operand
    go Bad = faulty_stands
    go Void = faulty_stands
    go (Int t) = address_of_stands s at (elem.Int t) k h
    go (Struct n) = address_of_stands s at (elem.Struct n) k h
    go (Array e count) = faulty_stands
    go (Pointer e fixed) = pointer_stands k.designates s at

pub stepped_stands : (structs : Structs) (s : Span) (back postfix : Bool) (at : Span) (k : Known) → KnownStands k → KnownStands (stepped structs s back postfix at k).operand
unfolding stepped stepped_by
stepped_stands structs s back postfix at k h = go (target_fault structs k) (step_rule k.ty)
  where
    go : (o : Option FaultKind) (r : UnaryRule) → KnownStands (stepped_by o r s back postfix at k.tree).operand
    go o unary_rule.Unknown = faulty_stands
    go o unary_rule.Wrong = faulty_stands
    go None (unary_rule.Gives ty) = record { tree = place_of_stands k.tree h.tree; null = λ e. false_not_true e }
    go (Some kind) (unary_rule.Gives ty) = faulty_stands

pub prefixed_stands : (structs : Structs) (o : PrefixOp) (s at : Span) (k : Known) → KnownStands k → KnownStands (prefixed structs o s at k).operand
unfolding prefixed
prefixed_stands structs op.AddressOf s at k h = addressed_stands s at k h
prefixed_stands structs op.Dereference s at k h = dereferenced_stands s at k h
prefixed_stands structs op.Plus s at k h = computed_stands Plus s at k h
prefixed_stands structs op.Minus s at k h = computed_stands Minus s at k h
prefixed_stands structs op.Complement s at k h = computed_stands Flip s at k h
prefixed_stands structs op.Not s at k h = computed_stands Not s at k h
prefixed_stands structs op.Increment s at k h = stepped_stands structs s false false at k h
prefixed_stands structs op.Decrement s at k h = stepped_stands structs s true false at k h

pub cast_stands : (pointer : Bool) (base : «Type») (s at : Span) (k : Known) → KnownStands k → KnownStands (cast_to pointer base s at k).operand
unfolding cast_to cast_by
cast_stands pointer base s at k h = go (cast_rule (cast_target pointer base) (value_of k))
  where
    go : (r : CastRule) → KnownStands (cast_by r s at (value_tree at k)).operand
    go cast.Unknown = faulty_stands
    go cast.Wrong = faulty_stands
    go cast.OutOfProfile = faulty_stands
    go (cast.Converts t) = record { tree = value_stands at k h; null = λ e. false_not_true e }
    go cast.Discards = record { tree = value_stands at k h; null = λ e. false_not_true e }

-- ---- `?:`

arm_placed : (ty : «Type») (x : Placed) → KnownStands x.known → is_placed (arm_tree ty x) ≡ true
unfolding arm_tree
arm_placed ty x h = as_type_placed ty (value_at x).null (tree_at x) (value_stands x.span x.known h)

choice_stands : (s : Span) (ty : «Type») (test first last : Placed) → KnownStands test.known → KnownStands first.known → KnownStands last.known → stands (choice_tree s ty test first last) ≡ true
unfolding choice_tree
choice_stands s ty test first last h k i =
    both_hold (stands (tree_at test)) (is_placed (arm_tree ty first) && is_placed (arm_tree ty last)) (value_stands test.span test.known h)
    (both_hold (is_placed (arm_tree ty first)) (is_placed (arm_tree ty last)) (arm_placed ty first k) (arm_placed ty last i))

chosen_by_stands : (r : ChoiceRule) (wrong : Bool) (s : Span) (test first last : Placed) → KnownStands test.known → KnownStands first.known → KnownStands last.known → KnownStands (chosen_by r wrong s test first last).operand
unfolding chosen_by
chosen_by_stands arms.Unknown wrong s test first last h k i = faulty_stands
chosen_by_stands arms.Wrong wrong s test first last h k i = faulty_stands
chosen_by_stands arms.Structs wrong s test first last h k i = faulty_stands
chosen_by_stands (arms.Gives ty) true s test first last h k i = faulty_stands
chosen_by_stands (arms.Gives ty) false s test first last h k i = plain_stands ty (choice_tree s ty test first last) (choice_stands s ty test first last h k i)

pub chosen_stands : (s : Span) (test first last : Placed) → KnownStands test.known → KnownStands first.known → KnownStands last.known → KnownStands (chosen s test first last).operand
unfolding chosen chosen_when
chosen_stands s test first last h k i = go (condition_rule (value_at test)) (choice_rule (value_at first) (value_at last))
  where
    go : (c : ConditionRule) (r : ChoiceRule) → KnownStands (chosen_when c r s test first last).operand
    go condition.Unknown r = faulty_stands
    go condition.Wrong r = chosen_by_stands r true s test first last h k i
    go condition.Good r = chosen_by_stands r false s test first last h k i

-- ---- assignments

known_either : (d : Bool) (m n : Known) → KnownStands m → KnownStands n → KnownStands (if d then m else n)
known_either true m n h k = h
known_either false m n h k = k

stored_tree_stands : (s : Span) (left : Known) (w : Value) (x : ExprTree) → KnownStands left → stands x ≡ true → stands (stored_tree s left w x) ≡ true
unfolding stored_tree
stored_tree_stands s left w x h k = both_hold _ _ (place_of_stands left.tree h.tree) (as_type_placed left.ty w.null x k)

stored_stands : (structs : Structs) (s at : Span) (left : Known) (to : Span) (right : Known) → KnownStands left → KnownStands right → KnownStands (stored structs s at left to right).operand
unfolding stored stored_by
stored_stands structs s at left to right h k =
    either (is_bad left.ty || is_bad right.ty) _ _ faulty_stands
    (known_either (is_some (target_fault structs left) || misfits left.ty (value_of right)) faulty (plain left.ty (stored_tree s left (value_of right) (value_tree to right))) faulty_stands
    (plain_stands left.ty (stored_tree s left (value_of right) (value_tree to right)) (stored_tree_stands s left (value_of right) (value_tree to right) h (value_stands to right k))))

-- the operators of compound assignments compare nothing

arithmetic_plain : (s t : «Type») → is_pointers (arithmetic s t) ≡ false
arithmetic_plain (Int a) (Int b) = refl
arithmetic_plain s t = refl

shift_plain : (s t : «Type») → is_pointers (shift s t) ≡ false
shift_plain (Int a) (Int b) = refl
shift_plain s t = refl

sum_plain : (s t : «Type») → is_pointers (sum s t) ≡ false
sum_plain (Int a) (Int b) = refl
sum_plain (Pointer e f) (Int b) = refl
sum_plain (Int a) (Pointer e f) = refl
sum_plain s t = refl

rule_either : (d : Bool) (r q : Rule) → is_pointers r ≡ false → is_pointers q ≡ false → is_pointers (if d then r else q) ≡ false
rule_either true r q h k = h
rule_either false r q h k = k

difference_plain : (s t : «Type») → is_pointers (difference s t) ≡ false
difference_plain (Int a) (Int b) = refl
difference_plain (Pointer e f) (Int b) = refl
difference_plain (Pointer e f) (Pointer d g) = rule_either (is_same_elem e d) rule.Difference at_right refl refl
difference_plain s t = refl

judged_plain : (bad left right : Bool) (r : Rule) → is_pointers r ≡ false → is_pointers (judged bad left right r) ≡ false
judged_plain true left right r h = refl
judged_plain false true true r h = h
judged_plain false true false r h = refl
judged_plain false false right r h = refl

binary_plain : (o : BinaryOp) (v w : Value) → is_compounding o ≡ true → is_pointers (binary_rule o v w) ≡ false
unfolding is_compounding binary_rule
binary_plain b.BitOr v w h = judged_plain (is_bad v.ty || is_bad w.ty) (takes b.BitOr v.ty) (takes b.BitOr w.ty) (arithmetic v.ty w.ty) (arithmetic_plain v.ty w.ty)
binary_plain b.BitXor v w h = judged_plain (is_bad v.ty || is_bad w.ty) (takes b.BitXor v.ty) (takes b.BitXor w.ty) (arithmetic v.ty w.ty) (arithmetic_plain v.ty w.ty)
binary_plain b.BitAnd v w h = judged_plain (is_bad v.ty || is_bad w.ty) (takes b.BitAnd v.ty) (takes b.BitAnd w.ty) (arithmetic v.ty w.ty) (arithmetic_plain v.ty w.ty)
binary_plain b.Multiply v w h = judged_plain (is_bad v.ty || is_bad w.ty) (takes b.Multiply v.ty) (takes b.Multiply w.ty) (arithmetic v.ty w.ty) (arithmetic_plain v.ty w.ty)
binary_plain b.Divide v w h = judged_plain (is_bad v.ty || is_bad w.ty) (takes b.Divide v.ty) (takes b.Divide w.ty) (arithmetic v.ty w.ty) (arithmetic_plain v.ty w.ty)
binary_plain b.Remainder v w h = judged_plain (is_bad v.ty || is_bad w.ty) (takes b.Remainder v.ty) (takes b.Remainder w.ty) (arithmetic v.ty w.ty) (arithmetic_plain v.ty w.ty)
binary_plain b.ShiftLeft v w h = judged_plain (is_bad v.ty || is_bad w.ty) (takes b.ShiftLeft v.ty) (takes b.ShiftLeft w.ty) (shift v.ty w.ty) (shift_plain v.ty w.ty)
binary_plain b.ShiftRight v w h = judged_plain (is_bad v.ty || is_bad w.ty) (takes b.ShiftRight v.ty) (takes b.ShiftRight w.ty) (shift v.ty w.ty) (shift_plain v.ty w.ty)
binary_plain b.Add v w h = judged_plain (is_bad v.ty || is_bad w.ty) (takes b.Add v.ty) (takes b.Add w.ty) (sum v.ty w.ty) (sum_plain v.ty w.ty)
binary_plain b.Subtract v w h = judged_plain (is_bad v.ty || is_bad w.ty) (takes b.Subtract v.ty) (takes b.Subtract w.ty) (difference v.ty w.ty) (difference_plain v.ty w.ty)
binary_plain b.LogicalOr v w h = false_not_true h
binary_plain b.LogicalAnd v w h = false_not_true h
binary_plain b.Equal v w h = false_not_true h
binary_plain b.NotEqual v w h = false_not_true h
binary_plain b.Less v w h = false_not_true h
binary_plain b.LessEqual v w h = false_not_true h
binary_plain b.Greater v w h = false_not_true h
binary_plain b.GreaterEqual v w h = false_not_true h

operator_plain : (o : BinaryOp) (ty : «Type») (w : Value) → is_pointers (operator_rule o ty w) ≡ false
unfolding operator_rule compound_rule
operator_plain o ty w = go (is_compounding o) refl
  where
    v : Value
    v = record { ty = ty; null = false }

    go : (d : Bool) → is_compounding o ≡ d →
        is_pointers (if d then (if is_wrong (fit_rule ty (record { ty = rule_type (binary_rule o (record { ty = ty; null = false }) w) (record { ty = ty; null = false }) w; null = false })) then at_right else binary_rule o (record { ty = ty; null = false }) w) else rule.Wrong true true) ≡ false
    go true e = rule_either (is_wrong (fit_rule ty (record { ty = rule_type (binary_rule o v w) v w; null = false }))) at_right (binary_rule o v w) refl (binary_plain o v w e)
    go false e = refl

step_rule_plain : (o : BinaryOp) (ty : «Type») (w : Value) → is_pointers (step_rule_of o ty w) ≡ false
unfolding step_rule_of
step_rule_plain o Bad w = refl
step_rule_plain o Void w = operator_plain o Void w
step_rule_plain o (Int t) w = operator_plain o (Int t) w
step_rule_plain o (Struct n) w = operator_plain o (Struct n) w
step_rule_plain o (Array e count) w = refl
step_rule_plain o (Pointer e fixed) w = operator_plain o (Pointer e fixed) w

compound_tree_stands : (r : Rule) (o : BinaryOp) (s at : Span) (left : Known) (w : Value) (x : ExprTree) → is_pointers r ≡ false → KnownStands left → stands x ≡ true → stands (compound_tree r o s at left w x) ≡ true
unfolding compound_tree
compound_tree_stands r o s at left w x p h k = both_hold _ _ (place_of_stands left.tree h.tree) (converted_stands r w (object_value left.ty) x p k)

compounded_stands : (structs : Structs) (o : BinaryOp) (s at : Span) (left : Known) (to : Span) (right : Known) → KnownStands left → KnownStands right → KnownStands (compounded structs o s at left to right).operand
unfolding compounded compounded_by
compounded_stands structs o s at left to right h k =
    let r = step_rule_of o left.ty (value_of right) in
    let tree = compound_tree r o s at left (value_of right) (value_tree to right) in
    either (is_bad left.ty || is_bad right.ty) _ _ faulty_stands
    (known_either (is_some (target_fault structs left) || is_refused r) faulty (plain left.ty tree) faulty_stands
    (plain_stands left.ty tree (compound_tree_stands r o s at left (value_of right) (value_tree to right) (step_rule_plain o left.ty (value_of right)) h (value_stands to right k))))

pub assigned_stands : (structs : Structs) (o : Option BinaryOp) (s at : Span) (left : Known) (to : Span) (right : Known) → KnownStands left → KnownStands right → KnownStands (assigned structs o s at left to right).operand
unfolding assigned
assigned_stands structs None s at left to right h k = stored_stands structs s at left to right h k
assigned_stands structs (Some o) s at left to right h k = compounded_stands structs o s at left to right h k

-- ---- [ ]

moved_stands : (s : Span) (ty : «Type») (step : LinkStep) (x y : ExprTree) → is_compared step ≡ false → stands x ≡ true → stands y ≡ true → stands (moved_tree s ty step x y) ≡ true
unfolding moved_tree
moved_stands s ty step x y p h k = both_hold (is_placed x) _ (placed_of x h)
    (subst (λ z. ((if is_compared step then stands y || (not z && is_null y) else not z && stands y) && true) ≡ true) (sym (not_null x h))
    (subst (λ z. ((if z then stands y || (not false && is_null y) else not false && stands y) && true) ≡ true) (sym p) (both_hold (stands y) true k refl)))

element_stands : (ty : «Type») (s at : Span) (k : Known) (y : ExprTree) → KnownStands k → stands y ≡ true → Stands (element_tree ty s at k y)
unfolding element_tree
element_stands (Array e count) s at k y h i = (root_of_stands k.tree h.tree, steps_of_stand k.tree h.tree, i)
element_stands Bad s at k y h i = moved_stands s (value_of k).ty (link_step.Move false) (value_tree at k) y refl (value_stands at k h) i
element_stands Void s at k y h i = moved_stands s (value_of k).ty (link_step.Move false) (value_tree at k) y refl (value_stands at k h) i
element_stands (Int t) s at k y h i = moved_stands s (value_of k).ty (link_step.Move false) (value_tree at k) y refl (value_stands at k h) i
element_stands (Struct n) s at k y h i = moved_stands s (value_of k).ty (link_step.Move false) (value_tree at k) y refl (value_stands at k h) i
element_stands (Pointer e fixed) s at k y h i = moved_stands s (value_of k).ty (link_step.Move false) (value_tree at k) y refl (value_stands at k h) i

index_stands : (s at : Span) (k : Known) (to : Span) (i : Known) → KnownStands k → KnownStands i → Stands (index_tree s at k to i)
unfolding index_tree
index_stands s at k to i h j = moved_stands s (value_of i).ty link_step.MoveBy (value_tree at k) (value_tree to i) refl (value_stands at k h) (value_stands to i j)

pub indexed_stands : (s at : Span) (k : Known) (to : Span) (i : Known) → KnownStands k → KnownStands i → KnownStands (indexed s at k to i).operand
unfolding indexed indexed_by
indexed_stands s at k to i h j = go (index_rule (value_of k) (value_of i))
  where
    go : (r : Rule) → KnownStands (indexed_by r s at k to i).operand
    go rule.Unknown = faulty_stands
    go (rule.Wrong left right) = faulty_stands
    go (rule.Arithmetic t) = faulty_stands
    go (rule.Comparison t) = faulty_stands
    go (rule.Shift t) = faulty_stands
    go rule.Logical = faulty_stands
    go rule.Move = record { tree = element_stands k.ty s at k (value_tree to i) h (value_stands to i j); null = λ e. false_not_true e }
    go rule.MoveBy = record { tree = index_stands s at k to i h j; null = λ e. false_not_true e }
    go rule.Difference = faulty_stands
    go rule.ComparePointers = faulty_stands

-- ---- . and ->

part_stands : (o : Option FoundField) (w : Word) (fixed designates : Bool) (root : RootTree) (steps : List StepTree) → root_stands root ≡ true → steps_stand (step_trees steps) ≡ true → KnownStands (part_by o w fixed designates root steps).operand
unfolding part_by
part_stands None w fixed designates root steps h k = faulty_stands
part_stands (Some f) w fixed designates root steps h k = record { tree = (h, steps_more steps (field f.number) k refl); null = λ e. false_not_true e }

pub dotted_stands : (structs : Structs) (w : Word) (at : Span) (k : Known) → KnownStands k → KnownStands (dotted structs w at k).operand
unfolding dotted dotted_as
dotted_stands structs w at k h = go k.ty
  where
    go : (ty : «Type») → KnownStands (dotted_as ty structs w at k).operand
    go Bad = faulty_stands
    go Void = faulty_stands
    go (Int t) = faulty_stands
    go (Struct n) = part_stands (field_named structs n w.bytes) w k.fixed k.designates (root_of k.tree) (steps_of k.tree) (root_of_stands k.tree h.tree) (steps_of_stand k.tree h.tree)
    go (Array e count) = faulty_stands
    go (Pointer e fixed) = faulty_stands

pub arrow_stands : (structs : Structs) (s : Span) (w : Word) (at : Span) (k : Known) → KnownStands k → KnownStands (arrow structs s w at k).operand
unfolding arrow arrow_as
arrow_stands structs s w at k h = go (value_of k).ty
  where
    go : (ty : «Type») → KnownStands (arrow_as ty structs s w at (value_tree at k)).operand
    go Bad = faulty_stands
    go Void = faulty_stands
    go (Int t) = faulty_stands
    go (Struct n) = faulty_stands
    go (Array e count) = faulty_stands
    go (Pointer (elem.Int t) fixed) = faulty_stands
    go (Pointer (elem.Struct n) fixed) = part_stands (field_named structs n w.bytes) w fixed true (deref (value_tree at k) s) [] (value_stands at k h) refl

-- ---- calls

pub argument_placed : (o : Option «Type») (at : Span) (k : Known) → KnownStands k → is_placed (argument_tree o (value_of k) (value_tree at k)) ≡ true
unfolding argument_tree
argument_placed None at k h = placed_of (value_tree at k) (value_stands at k h)
argument_placed (Some t) at k h = as_type_placed t (value_of k).null (value_tree at k) (value_stands at k h)

call_of_stands : (c : Callable) (s : Span) (f : FnId) (trees : List ExprTree) → arguments_stand (expr_trees trees) ≡ true → KnownStands (call_of c s f trees).operand
unfolding call_of
call_of_stands c s f trees h = either (is_main c.name) _ _ faulty_stands (either (nat_eq (length trees) (length c.params)) _ _ (plain_stands c.result (call_tree s c.result f trees) h) faulty_stands)

called_other_stands : (ty : «Type») (s : Span) → KnownStands (called_other ty s).operand
unfolding called_other
called_other_stands Bad s = faulty_stands
called_other_stands Void s = faulty_stands
called_other_stands (Int t) s = faulty_stands
called_other_stands (Struct n) s = faulty_stands
called_other_stands (Array e count) s = faulty_stands
called_other_stands (Pointer e fixed) s = faulty_stands

pub called_stands : (env : Env) (callee : Option FnId) (ty : «Type») (s : Span) (trees : List ExprTree) → arguments_stand (expr_trees trees) ≡ true → KnownStands (called env callee ty s trees).operand
unfolding called called_function
called_stands env None ty s trees h = called_other_stands ty s
called_stands env (Some f) ty s trees h = go (function_at env f)
  where
    go : (o : Option Callable) → KnownStands (called_function o s f trees).operand
    go None = faulty_stands
    go (Some c) = call_of_stands c s f trees h
