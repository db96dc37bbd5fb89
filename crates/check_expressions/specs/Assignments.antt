-- Assignments (C99 6.5.16). `s` is the span of the whole, `left` and `right` are those of the operands.
use Rattle.std.specs.Prelude.{[], ◌++◌, Bool, true, false, ◌||◌, Option, Some, None, is_some, if◌then◌else◌}
use Rattle.pt_base.specs.declared.span.Span.{Span}
use Rattle.pt_tree.specs.declared.operator.BinaryOp.{BinaryOp}
use Rattle.pt_tree.specs.declared.operator.BinaryOp.TheVariants.{LogicalOr, LogicalAnd, BitOr, BitXor, BitAnd, Equal, NotEqual, Less, Greater, LessEqual, GreaterEqual, ShiftLeft, ShiftRight, Add, Subtract, Multiply, Divide, Remainder}
use Rattle.type_rules.specs.declared.types.Type.{«Type»}
use Rattle.type_rules.specs.declared.types.Type.TheVariants.{Bad, Void, Int, Struct, Array, Pointer}
use Rattle.type_rules.specs.declared.types.Value.{Value}
use Rattle.type_rules.specs.declared.operators.Rule.{Rule}
use Rattle.type_rules.specs.declared.operators.Rule.TheVariants as rule
use Rattle.type_rules.specs.Types.{is_bad}
use Rattle.type_rules.specs.Conversions.{fit_rule, is_wrong, compound_rule}
use Rattle.typed_tree.specs.ExpressionTree.{ExprTree, typed, assign, compound}
use Rattle.check_declarations.specs.declared.fault.FaultKind.{FaultKind}
use Rattle.check_declarations.specs.declared.fault.FaultKind.TheVariants.{WrongType}
use Rattle.check_declarations.specs.Faults.{fault_if}
use Rattle.check_declarations.specs.Structs.{Structs}
use Rattle.check_expressions.specs.Conversions.{as_type}
use Rattle.check_expressions.specs.Links.{integer_op, step_of, converted_by, rule_faults}
use Rattle.check_expressions.specs.Operands.{Known, Made, var_type, place_of, value_of, value_tree, plain, faulty, refused}
use Rattle.check_expressions.specs.Targets.{optional_fault, target_fault}

-- ---- =

-- the right side doesn't fit; of an array or a void left side that isn't asked
unfoldable pub misfits : «Type» → Value → Bool
misfits Bad w = false
misfits Void w = false
misfits (Int t) w = is_wrong (fit_rule (Int t) w)
misfits (Struct n) w = is_wrong (fit_rule (Struct n) w)
misfits (Array e count) w = false
misfits (Pointer e fixed) w = is_wrong (fit_rule (Pointer e fixed) w)

unfoldable pub stored_tree : Span → Known → Value → ExprTree → ExprTree
stored_tree s a w x = typed s (var_type a.ty) (assign (place_of a.tree) (as_type a.ty w.null x))

unfoldable pub stored_by : Option FaultKind → Bool → Span → Span → Known → Span → Value → ExprTree → Made
stored_by target misfit s left a right w x = record {
  operand = if is_some target || misfit then faulty else plain a.ty (stored_tree s a w x);
  faults = optional_fault target left ++ fault_if misfit WrongType right;
}

unfoldable pub stored : Structs → Span → Span → Known → Span → Known → Made
stored structs s left a right b =
    if is_bad a.ty || is_bad b.ty then refused []
    else stored_by (target_fault structs a) (misfits a.ty (value_of b)) s left a right (value_of b) (value_tree right b)

-- ---- op=

-- an assignment can be compounded with it: * / % + - << >> & ^ | (C99 6.5.16)
unfoldable pub is_compounding : BinaryOp → Bool
is_compounding LogicalOr = false
is_compounding LogicalAnd = false
is_compounding BitOr = true
is_compounding BitXor = true
is_compounding BitAnd = true
is_compounding Equal = false
is_compounding NotEqual = false
is_compounding Less = false
is_compounding Greater = false
is_compounding LessEqual = false
is_compounding GreaterEqual = false
is_compounding ShiftLeft = true
is_compounding ShiftRight = true
is_compounding Add = true
is_compounding Subtract = true
is_compounding Multiply = true
is_compounding Divide = true
is_compounding Remainder = true

-- the grammar builds no assignment with another operator, and both operands of one are wrong
unfoldable pub operator_rule : BinaryOp → «Type» → Value → Rule
operator_rule op ty w = if is_compounding op then compound_rule op ty w else rule.Wrong true true

-- an array on the left is faulty already, and the operator isn't asked
unfoldable pub step_rule_of : BinaryOp → «Type» → Value → Rule
step_rule_of op Bad w = rule.Unknown
step_rule_of op Void w = operator_rule op Void w
step_rule_of op (Int t) w = operator_rule op (Int t) w
step_rule_of op (Struct n) w = operator_rule op (Struct n) w
step_rule_of op (Array e count) w = rule.Unknown
step_rule_of op (Pointer e fixed) w = operator_rule op (Pointer e fixed) w

unfoldable pub is_refused : Rule → Bool
is_refused rule.Unknown = true
is_refused (rule.Wrong left right) = true
is_refused r = false

abbrev pub object_value : «Type» → Value
object_value ty = record { ty = ty; null = false }

unfoldable pub compound_tree : Rule → BinaryOp → Span → Span → Known → Value → ExprTree → ExprTree
compound_tree rule op s left a w x = typed s (var_type a.ty) (compound (place_of a.tree) left (step_of (integer_op op) rule) (converted_by rule w (object_value a.ty) x))

unfoldable pub compounded_by : Option FaultKind → Rule → BinaryOp → Span → Span → Known → Span → Value → ExprTree → Made
compounded_by target rule op s left a right w x = record {
  operand = if is_some target || is_refused rule then faulty else plain a.ty (compound_tree rule op s left a w x);
  faults = optional_fault target left ++ rule_faults rule left right;
}

unfoldable pub compounded : Structs → BinaryOp → Span → Span → Known → Span → Known → Made
compounded structs op s left a right b =
    if is_bad a.ty || is_bad b.ty then refused []
    else compounded_by (target_fault structs a) (step_rule_of op a.ty (value_of b)) op s left a right (value_of b) (value_tree right b)

unfoldable pub assigned : Structs → Option BinaryOp → Span → Span → Known → Span → Known → Made
assigned structs None s left a right b = stored structs s left a right b
assigned structs (Some op) s left a right b = compounded structs op s left a right b
