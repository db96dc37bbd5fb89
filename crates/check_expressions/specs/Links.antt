-- Chains of operators that group to the left (C99 6.5.5 to 6.5.14): the value so far, and one link after
-- the other.
use Rattle.std.specs.Prelude.{List, [], ◌∷◌, ◌++◌, Bool, true, false, Option, Some, None, unwrap_or, is_some, length, map, nat_eq, if◌then◌else◌}
use Rattle.std.proofs.Math.Bool.{beq}
use Rattle.pt_base.specs.declared.span.Span.{Span}
use Rattle.pt_base.specs.declared.int_type.IntType.TheVariants as int
use Rattle.pt_int.specs.declared.operator.BinOp.{BinOp}
use Rattle.pt_int.specs.declared.operator.BinOp.TheVariants as binop
use Rattle.pt_tree.specs.declared.operator.BinaryOp.{BinaryOp}
use Rattle.pt_tree.specs.declared.operator.BinaryOp.TheVariants.{LogicalOr, LogicalAnd, BitOr, BitXor, BitAnd, Equal, NotEqual, Less, Greater, LessEqual, GreaterEqual, ShiftLeft, ShiftRight, Add, Subtract, Multiply, Divide, Remainder}
use Rattle.pt_tree.specs.ExpressionTree as e
use Rattle.type_rules.specs.declared.types.Type.{«Type»}
use Rattle.type_rules.specs.declared.types.Value.{Value}
use Rattle.type_rules.specs.declared.operators.Rule.{Rule}
use Rattle.type_rules.specs.declared.operators.Rule.TheVariants as rule
use Rattle.type_rules.specs.Operators.{binary_rule, rule_type}
use Rattle.typed_tree.specs.declared.types.VarTy.{VarTy}
use Rattle.typed_tree.specs.declared.types.VarTy.TheVariants as v
use Rattle.typed_tree.specs.declared.link.LinkStep.{LinkStep}
use Rattle.typed_tree.specs.declared.link.LinkStep.TheVariants as link_step
use Rattle.typed_tree.specs.declared.link.LogicalOp.{LogicalOp}
use Rattle.typed_tree.specs.declared.link.LogicalOp.TheVariants as logical_op
use Rattle.typed_tree.specs.ExpressionTree.{ExprTree, typed, chain, logical, LinkTree, link, link_trees, OperandTree, operand, operand_trees}
use Rattle.check_declarations.specs.declared.fault.FaultKind.TheVariants.{WrongType}
use Rattle.check_declarations.specs.declared.fault.TypeFault.{TypeFault}
use Rattle.check_declarations.specs.Faults.{fault_at, fault_if}
use Rattle.check_expressions.specs.Conversions.{as_type, as_promoted, to_int}
use Rattle.check_expressions.specs.Operands.{Known, Made, var_type, plain, fine, refused, value_of, value_tree}

-- ---- operators

-- the operators of integers
unfoldable pub integer_op : BinaryOp → BinOp
integer_op LogicalOr = binop.Or
integer_op LogicalAnd = binop.And
integer_op BitOr = binop.Or
integer_op BitXor = binop.Xor
integer_op BitAnd = binop.And
integer_op Equal = binop.Eq
integer_op NotEqual = binop.Ne
integer_op Less = binop.Lt
integer_op Greater = binop.Gt
integer_op LessEqual = binop.Le
integer_op GreaterEqual = binop.Ge
integer_op ShiftLeft = binop.Shl
integer_op ShiftRight = binop.Shr
integer_op Add = binop.Add
integer_op Subtract = binop.Sub
integer_op Multiply = binop.Mul
integer_op Divide = binop.Div
integer_op Remainder = binop.Rem

-- && and ||
unfoldable pub logical_of : BinaryOp → Option LogicalOp
logical_of LogicalOr = Some logical_op.Or
logical_of LogicalAnd = Some logical_op.And
logical_of BitOr = None
logical_of BitXor = None
logical_of BitAnd = None
logical_of Equal = None
logical_of NotEqual = None
logical_of Less = None
logical_of Greater = None
logical_of LessEqual = None
logical_of GreaterEqual = None
logical_of ShiftLeft = None
logical_of ShiftRight = None
logical_of Add = None
logical_of Subtract = None
logical_of Multiply = None
logical_of Divide = None
logical_of Remainder = None

-- ---- what a rule makes of an operator and its operands

unfoldable pub is_shift_left : BinOp → Bool
is_shift_left binop.Shl = true
is_shift_left op = false

unfoldable pub is_subtraction : BinOp → Bool
is_subtraction binop.Sub = true
is_subtraction op = false

-- the step of a chain; that of a faulty link, or of && and ||, is any
unfoldable pub step_of : BinOp → Rule → LinkStep
step_of op rule.Unknown = link_step.Difference
step_of op (rule.Wrong left right) = link_step.Difference
step_of op (rule.Arithmetic t) = link_step.Arithmetic op t
step_of op (rule.Comparison t) = link_step.Arithmetic op t
step_of op (rule.Shift t) = link_step.Shift (is_shift_left op)
step_of op rule.Logical = link_step.Difference
step_of op rule.Move = link_step.Move (is_subtraction op)
step_of op rule.MoveBy = link_step.MoveBy
step_of op rule.Difference = link_step.Difference
step_of op rule.ComparePointers = link_step.Compare op

-- the conversion of an operand, on either side, by the rule: `own` is the operand's value and `other`
-- the other one's
unfoldable pub converted_by : Rule → Value → Value → ExprTree → ExprTree
converted_by rule.Unknown own other x = x
converted_by (rule.Wrong left right) own other x = x
converted_by (rule.Arithmetic t) own other x = to_int t x
converted_by (rule.Comparison t) own other x = to_int t x
converted_by (rule.Shift t) own other x = as_promoted own.ty x
converted_by rule.Logical own other x = x
converted_by rule.Move own other x = x
converted_by rule.MoveBy own other x = x
converted_by rule.Difference own other x = x
converted_by rule.ComparePointers own other x = if own.null then as_type other.ty true x else x

unfoldable pub rule_faults : Rule → Span → Span → List TypeFault
rule_faults rule.Unknown left right = []
rule_faults (rule.Wrong at_left at_right) left right = fault_if at_left WrongType left ++ fault_if at_right WrongType right
rule_faults (rule.Arithmetic t) left right = []
rule_faults (rule.Comparison t) left right = []
rule_faults (rule.Shift t) left right = []
rule_faults rule.Logical left right = []
rule_faults rule.Move left right = []
rule_faults rule.MoveBy left right = []
rule_faults rule.Difference left right = []
rule_faults rule.ComparePointers left right = []

-- ---- chains

-- the operators of a chain are of one level; the grammar builds no others, and an operator among those
-- of the other sort is wrong
unfoldable pub link_rule : Bool → BinaryOp → Value → Value → Rule
link_rule is_logical op so_far w = if beq is_logical (is_some (logical_of op)) then binary_rule op so_far w else rule.Wrong true true

-- all of a chain so far: its value, where it stands, the tree of the first operand and the links
pub record SoFar : Type 0 where
  pub value : Value
  pub span : Span
  pub first : ExprTree
  pub links : List LinkTree

unfoldable pub begun : Span → Known → SoFar
begun at k = record { value = value_of k; span = at; first = value_tree at k; links = [] }

-- the type of a step's result; that of a faulty one is any
unfoldable pub link_type : «Type» → VarTy
link_type ty = unwrap_or (var_type ty) (v.Int int.Int)

unfoldable pub has_none : List LinkTree → Bool
has_none links = nat_eq (length links) 0

-- the first operand is converted by the first link, and what comes later by its step
unfoldable pub first_by : Bool → Rule → Value → Value → ExprTree → ExprTree
first_by is_first rule own other x = if is_first then converted_by rule own other x else x

-- a link more, with an operand of this value and tree; the span is that of all up to and with it
unfoldable pub linked : Rule → BinaryOp → Span → SoFar → Value → ExprTree → SoFar
linked rule op span far w x = record {
  value = record { ty = rule_type rule far.value w; null = false };
  span = span;
  first = first_by (has_none far.links) rule far.value w far.first;
  links = far.links ++ link span (link_type (rule_type rule far.value w)) (step_of (integer_op op) rule) (converted_by rule w far.value x) ∷ [];
}

unfoldable pub operand_of : LinkTree → OperandTree
operand_of (link span ty step x) = operand span x

-- the tree of a chain with these links
unfoldable pub links_tree : Option LogicalOp → Span → Option VarTy → ExprTree → List LinkTree → ExprTree
links_tree None s ty first links = typed s ty (chain first (link_trees links))
links_tree (Some op) s ty first links = typed s ty (logical op first (operand_trees (map operand_of links)))

-- a whole chain; the grammar builds none without a link, which would have no tree
unfoldable pub chained : Option LogicalOp → Span → SoFar → Made
chained op s far =
    if has_none far.links then refused (fault_at WrongType s ∷ [])
    else fine (plain far.value.ty (links_tree op s (var_type far.value.ty) far.first far.links))

-- the sort of a chain, by its first operator
unfoldable pub sort_of : e.LinkTrees → Option LogicalOp
sort_of e.no_links = None
sort_of (e.link_and (e.link s op a) rest) = logical_of op
