-- The operators between two operands, as links of chains.
use Rattle.std.proofs.Common.{◌≡◌, ◌∙◌, refl, ap, sym, subst, Bool, true, false, Some, None, [], Result, Option, ℕ}
use Rattle.pt_base.specs.declared.int_type.IntType.{IntType}
use Rattle.pt_base.specs.declared.int_type.IntType.TheVariants as i
use Rattle.pt_base.specs.declared.span.Span.{Span}
use Rattle.pt_base.specs.declared.trap.Trap.{Trap}
use Rattle.pt_base.specs.IntTypes.{usual}
use Rattle.pt_base.proofs.Booleans.{true_not_false}
use Rattle.pt_int.specs.declared.operator.BinOp.{BinOp}
use Rattle.pt_int.specs.declared.operator.BinOp.TheVariants.{Mul, Div, Rem, Add, Sub, Shl, Shr, Lt, Gt, Le, Ge, Eq, Ne, And, Xor, Or}
use Rattle.pt_int.specs.Operator.{is_shift, binary_type}
use Rattle.pt_tree.specs.declared.operator.BinaryOp.{BinaryOp}
use Rattle.pt_tree.specs.ExpressionTree as e
use Rattle.type_rules.specs.declared.types.Type.{«Type»}
use Rattle.type_rules.specs.declared.types.Type.TheVariants as ty
use Rattle.type_rules.specs.declared.types.Value.{Value}
use Rattle.type_rules.specs.declared.operators.Rule.{Rule}
use Rattle.type_rules.specs.declared.operators.Rule.TheVariants as rule
use Rattle.type_rules.specs.Types.{value_type}
use Rattle.type_rules.specs.Operators.{binary_rule, rule_type}
use Rattle.typed_tree.specs.declared.types.VarTy.{VarTy}
use Rattle.typed_tree.specs.declared.types.VarTy.TheVariants as v
use Rattle.typed_tree.specs.ExpressionTree as t
use Rattle.typed_tree.specs.ExpressionTree.{typed}
use Rattle.typed_tree.specs.WellFormedExpression.{ty_of}
use Rattle.check_declarations.specs.Structs.{Structs}
use Rattle.check_expressions.specs.Environment.{Env}
use Rattle.check_expressions.specs.Expressions.{Judged, judge}
use Rattle.check_expressions.specs.Links.{SoFar, link_rule, logical_of, rule_faults, step_of, integer_op, converted_by, first_by, has_none}
use Rattle.check_expressions.specs.Operands.{value_of, value_tree, span_of}
use Rattle.block_memory.specs.declared.cell.Cell as core
use Rattle.block_memory.specs.Blocks.{Blocks}
use Rattle.source_meaning.specs.Memory.{Cell}
use Rattle.source_meaning.specs.Values as m
use Rattle.source_meaning.specs.Values.{holds, cell_of, stepped}
use Rattle.source_meaning.specs.Expressions as x
use Rattle.pt_core.specs.CodeTree.{ExprTree, binary}
use Rattle.pt_core.specs.Types.{type_of}
use Rattle.pt_core.specs.Values.{◌>>?◌}
use Rattle.half_trees.specs.Expressions as h
use Rattle.half_trees.specs.Expressions.{operator_of}
use Rattle.half_meaning_law.specs.Relations.{Scene, context_of, core_cell, is_pointer, CellFits, reach_of}
use Rattle.half_meaning_law.specs.CForms.{points_const, with_const, c_type}
use Rattle.half_meaning_law.specs.Known.{type_as}
use Rattle.half_meaning_law.specs.Expressions.{IsValue, SameValues, asked, ExpressionMeans}
use Rattle.half_meaning_law.proofs.Chains.{Combines, FarHolds, LinkHolds}
use Rattle.half_meaning_law.proofs.Operators.{Told, computed, arithmetic_told}
use Rattle.half_meaning_law.proofs.Types.{to_int_same}
use Rattle.half_meaning_law.proofs.Judged.{Held, linked_held}

-- a judged value of the expression
pub record ValueOf (s : Scene) (a : ExprTree) (val : Value) : Type 0 where
  pub typed : val.ty ≡ type_as (c_type s.context a)
  pub plain : is_pointer (type_of s.context a) ≡ true → val.null ≡ false

-- what an operator between `a` and `b` does, wherever its operands come from, where it gives `d`
pub record OpFits (s : Scene) (a b d : ExprTree) (op : BinaryOp) : Type 0 where
  pub rule : Rule
  pub is : (left right : Value) → ValueOf s a left → ValueOf s b right → link_rule false op left right ≡ rule
  pub fine : (left right : Span) → rule_faults rule left right ≡ []
  pub typed : (left right : Value) → ValueOf s a left → rule_type rule left right ≡ type_as (c_type s.context d)
  pub whole : value_type (type_as (c_type s.context d)) false ≡ type_as (c_type s.context d)
  pub left : (own other : Value) (y : t.ExprTree) → ValueOf s a own → ty_of y ≡ Some (c_type s.context a) → converted_by rule own other y ≡ y
  pub right : (own other : Value) (y : t.ExprTree) → ValueOf s b own → ty_of y ≡ Some (c_type s.context b) → converted_by rule own other y ≡ y
  pub combine : Combines
  pub asks : (blocks : Blocks) → asked s d blocks ≡ (asked s a blocks >>? λ p. asked s b blocks >>? λ q. combine p q)
  pub steps : (y z : Cell) → CellFits s (reach_of s (type_of s.context a)) y → CellFits s (reach_of s (type_of s.context b)) z →
      Told s (reach_of s (type_of s.context d)) (stepped (x.sizes (context_of s)) (c_type s.context a) (step_of (integer_op op) rule) y z) (combine (core_cell s y) (core_cell s z))

-- steps of cells as steps of values
pub steps_of : (s : Scene) (ua ub : VarTy) (p : Option ℕ) (make : Cell → Cell → Result Cell Trap) (combine : Combines) → ((y z : Cell) → CellFits s (reach_of s ua) y → CellFits s (reach_of s ub) z → Told s p (make y z) (combine (core_cell s y) (core_cell s z))) →
    (g : m.Value) (q : core.Cell) (k : m.Value) (r : core.Cell) → IsValue s ua g q → IsValue s ub k r → Told s p (make (cell_of g) (cell_of k)) (combine q r)
steps_of s ua ub p make combine on g q k r is is' =
    subst (λ z. Told s p (make (cell_of z) (cell_of k)) (combine q r)) (sym is.is)
    (subst (λ z. Told s p (make is.cell (cell_of z)) (combine q r)) (sym is'.is)
    (subst (λ z. Told s p (make is.cell is'.cell) (combine z r)) (sym is.same)
    (subst (λ z. Told s p (make is.cell is'.cell) (combine (core_cell s is.cell) z)) (sym is'.same) (on is.cell is'.cell is.fits is'.fits))))

left_stays : (s : Scene) (a b d : ExprTree) (op : BinaryOp) (far : SoFar) (w : Value) (z : Bool) (o : OpFits s a b d op) → (z ≡ true → ty_of far.first ≡ Some (c_type s.context a)) → ValueOf s a far.value → first_by z o.rule far.value w far.first ≡ far.first
unfolding first_by
left_stays s a b d op far w true o tree val = o.left far.value w far.first val (tree refl)
left_stays s a b d op far w false o tree val = refl

pub link_from : (s : Scene) (structs : Structs) (a b d : ExprTree) (op : BinaryOp) (far : SoFar) (j : Judged) (at : Span) → OpFits s a b d op → FarHolds s a far → ExpressionMeans s structs b j →
    LinkHolds s a b d op far (value_of j.operand) (value_tree at j.operand)
unfolding value_of
link_from s structs a b d op far j at o held right = record {
  rule = o.rule;
  is = o.is far.value (value_of j.operand) so_far (record { typed = right.typed; plain = right.plain });
  fine = o.fine;
  typed = o.typed far.value (value_of j.operand) so_far;
  whole = o.whole;
  first_now = far.first;
  first = left_stays s a b d op far (value_of j.operand) (has_none far.links) o held.tree so_far;
  left = c_type s.context a;
  last = held.last;
  so_far = held.same;
  right = subst (λ z. SameValues s (type_of s.context b) z (asked s b)) (sym (o.right (value_of j.operand) far.value (value_tree at j.operand) (record { typed = right.typed; plain = right.plain }) (right.tree at))) (right.same at);
  combine = o.combine;
  asks = o.asks;
  steps = steps_of s (type_of s.context a) (type_of s.context b) (reach_of s (type_of s.context d)) (stepped (x.sizes (context_of s)) (c_type s.context a) (step_of (integer_op op) o.rule)) o.combine o.steps;
}
  where
    so_far : ValueOf s a far.value
    so_far = record { typed = held.typed; plain = held.plain }

-- an operator between two operands that hold
pub pair_held : (s : Scene) (env : Env) (structs : Structs) (a b d : ExprTree) (op : BinaryOp) (ta tb : e.ExprTree) → logical_of op ≡ None → OpFits s a b d op → Held s env structs a ta → Held s env structs b tb → Held s env structs d (h.linked op ta tb)
pair_held s env structs a b d op ta tb sort o left right =
    linked_held s env structs a b d op ta tb left right.means.fine sort (λ far held. link_from s structs a b d op far (judge env structs tb) (span_of tb) o held right.means)

-- ---- integers

pub integer_back : (op : BinOp) → integer_op (operator_of op) ≡ op
unfolding integer_op
integer_back Mul = refl
integer_back Div = refl
integer_back Rem = refl
integer_back Add = refl
integer_back Sub = refl
integer_back Shl = refl
integer_back Shr = refl
integer_back Lt = refl
integer_back Gt = refl
integer_back Le = refl
integer_back Ge = refl
integer_back Eq = refl
integer_back Ne = refl
integer_back And = refl
integer_back Xor = refl
integer_back Or = refl

pub no_logical : (op : BinOp) → logical_of (operator_of op) ≡ None
unfolding logical_of
no_logical Mul = refl
no_logical Div = refl
no_logical Rem = refl
no_logical Add = refl
no_logical Sub = refl
no_logical Shl = refl
no_logical Shr = refl
no_logical Lt = refl
no_logical Gt = refl
no_logical Le = refl
no_logical Ge = refl
no_logical Eq = refl
no_logical Ne = refl
no_logical And = refl
no_logical Xor = refl
no_logical Or = refl

-- a value of this type
abbrev pub val : «Type» → Bool → Value
val u null = record { ty = u; null = null }

-- the rule of two values is that of two of their types
pub rule_as : (op : BinaryOp) (left right : Value) (u z : «Type») (r : Rule) → left.ty ≡ u → right.ty ≡ z → link_rule false op (val u left.null) (val z right.null) ≡ r → link_rule false op left right ≡ r
rule_as op left right u z r p q is = ap (λ k. link_rule false op (val k left.null) right) p ∙ ap (λ k. link_rule false op (val u left.null) (val k right.null)) q ∙ is

pub as_integer : (s : Scene) (a : ExprTree) (to : IntType) (own : Value) → type_of s.context a ≡ v.Int to → ValueOf s a own → own.ty ≡ ty.Int to
as_integer s a to own is val = val.typed ∙ ap (λ z. type_as (with_const (points_const s.context a) z)) is

pub tree_integer : (s : Scene) (a : ExprTree) (to : IntType) (y : t.ExprTree) → type_of s.context a ≡ v.Int to → ty_of y ≡ Some (c_type s.context a) → ty_of y ≡ Some (v.Int to)
tree_integer s a to y is h = h ∙ ap (λ z. Some (with_const (points_const s.context a) z)) is

-- an operator at a type, between numbers of it
numbers_fit : (s : Scene) (op : BinOp) (to : IntType) (a b : ExprTree) (sp : Span) → type_of s.context a ≡ v.Int to → type_of s.context b ≡ v.Int to → is_shift op ≡ false → binary_type op to ≡ to →
    ((n k : Bool) → link_rule false (operator_of op) (val (ty.Int to) n) (val (ty.Int to) k) ≡ rule.Arithmetic to) → OpFits s a b (binary op to a b sp) (operator_of op)
unfolding rule_faults converted_by step_of
numbers_fit s op to a b sp is is' plain result rules = record {
  rule = rule.Arithmetic to;
  is = λ left right p q. rule_as (operator_of op) left right (ty.Int to) (ty.Int to) (rule.Arithmetic to) (as_integer s a to left is p) (as_integer s b to right is' q) (rules left.null right.null);
  fine = λ left right. refl;
  typed = λ left right p. ap ty.Int (sym result);
  whole = refl;
  left = λ own other y p h. to_int_same to y (tree_integer s a to y is h);
  right = λ own other y p h. to_int_same to y (tree_integer s b to y is' h);
  combine = computed sp op to;
  asks = λ blocks. refl;
  steps = λ y z p q. subst (λ o. Told s None (stepped (x.sizes (context_of s)) (c_type s.context a) (step_of o (rule.Arithmetic to)) y z) (computed sp op to (core_cell s y) (core_cell s z))) (sym (integer_back op)) (arithmetic_told s (x.sizes (context_of s)) (c_type s.context a) sp op to y z plain);
}

-- a comparison of numbers
truths_fit : (s : Scene) (op : BinOp) (to : IntType) (a b : ExprTree) (sp : Span) → type_of s.context a ≡ v.Int to → type_of s.context b ≡ v.Int to → is_shift op ≡ false → binary_type op to ≡ i.Int →
    ((n k : Bool) → link_rule false (operator_of op) (val (ty.Int to) n) (val (ty.Int to) k) ≡ rule.Comparison to) → OpFits s a b (binary op to a b sp) (operator_of op)
unfolding rule_faults converted_by step_of
truths_fit s op to a b sp is is' plain result rules = record {
  rule = rule.Comparison to;
  is = λ left right p q. rule_as (operator_of op) left right (ty.Int to) (ty.Int to) (rule.Comparison to) (as_integer s a to left is p) (as_integer s b to right is' q) (rules left.null right.null);
  fine = λ left right. refl;
  typed = λ left right p. ap ty.Int (sym result);
  whole = refl;
  left = λ own other y p h. to_int_same to y (tree_integer s a to y is h);
  right = λ own other y p h. to_int_same to y (tree_integer s b to y is' h);
  combine = computed sp op to;
  asks = λ blocks. refl;
  steps = λ y z p q. subst (λ o. Told s None (stepped (x.sizes (context_of s)) (c_type s.context a) (step_of o (rule.Comparison to)) y z) (computed sp op to (core_cell s y) (core_cell s z))) (sym (integer_back op)) (arithmetic_told s (x.sizes (context_of s)) (c_type s.context a) sp op to y z plain);
}

-- any operator but a shift
pub binary_fits : (s : Scene) (op : BinOp) (to : IntType) (a b : ExprTree) (sp : Span) → is_shift op ≡ false → usual to to ≡ to → type_of s.context a ≡ v.Int to → type_of s.context b ≡ v.Int to → OpFits s a b (binary op to a b sp) (operator_of op)
unfolding link_rule logical_of binary_rule
binary_fits s Mul to a b sp plain whole is is' = numbers_fit s Mul to a b sp is is' plain refl (λ n k. ap rule.Arithmetic whole)
binary_fits s Div to a b sp plain whole is is' = numbers_fit s Div to a b sp is is' plain refl (λ n k. ap rule.Arithmetic whole)
binary_fits s Rem to a b sp plain whole is is' = numbers_fit s Rem to a b sp is is' plain refl (λ n k. ap rule.Arithmetic whole)
binary_fits s Add to a b sp plain whole is is' = numbers_fit s Add to a b sp is is' plain refl (λ n k. ap rule.Arithmetic whole)
binary_fits s Sub to a b sp plain whole is is' = numbers_fit s Sub to a b sp is is' plain refl (λ n k. ap rule.Arithmetic whole)
binary_fits s And to a b sp plain whole is is' = numbers_fit s And to a b sp is is' plain refl (λ n k. ap rule.Arithmetic whole)
binary_fits s Xor to a b sp plain whole is is' = numbers_fit s Xor to a b sp is is' plain refl (λ n k. ap rule.Arithmetic whole)
binary_fits s Or to a b sp plain whole is is' = numbers_fit s Or to a b sp is is' plain refl (λ n k. ap rule.Arithmetic whole)
binary_fits s Lt to a b sp plain whole is is' = truths_fit s Lt to a b sp is is' plain refl (λ n k. ap rule.Comparison whole)
binary_fits s Gt to a b sp plain whole is is' = truths_fit s Gt to a b sp is is' plain refl (λ n k. ap rule.Comparison whole)
binary_fits s Le to a b sp plain whole is is' = truths_fit s Le to a b sp is is' plain refl (λ n k. ap rule.Comparison whole)
binary_fits s Ge to a b sp plain whole is is' = truths_fit s Ge to a b sp is is' plain refl (λ n k. ap rule.Comparison whole)
binary_fits s Eq to a b sp plain whole is is' = truths_fit s Eq to a b sp is is' plain refl (λ n k. ap rule.Comparison whole)
binary_fits s Ne to a b sp plain whole is is' = truths_fit s Ne to a b sp is is' plain refl (λ n k. ap rule.Comparison whole)
binary_fits s Shl to a b sp plain whole is is' = true_not_false plain
binary_fits s Shr to a b sp plain whole is is' = true_not_false plain
