-- The operators: what each takes, what it does with its operands, and the type that it gives (C99 6.5).
use Rattle.std.specs.Prelude.{Bool, true, false, ◌||◌, not, if◌then◌else◌}
use Rattle.pt_base.specs.IntTypes.{promoted, usual}
use Rattle.pt_base.specs.declared.int_type.IntType.TheVariants as int
use Rattle.pt_tree.specs.declared.operator.BinaryOp.{BinaryOp}
use Rattle.pt_tree.specs.declared.operator.BinaryOp.TheVariants.{LogicalOr, LogicalAnd, BitOr, BitXor, BitAnd, Equal, NotEqual, Less, Greater, LessEqual, GreaterEqual, ShiftLeft, ShiftRight, Add, Subtract, Multiply, Divide, Remainder}
use Rattle.type_rules.specs.declared.types.Type.{«Type»}
use Rattle.type_rules.specs.declared.types.Type.TheVariants.{Bad, Int, Pointer}
use Rattle.type_rules.specs.declared.types.Value.{Value}
use Rattle.type_rules.specs.declared.operators.Rule.{Rule}
use Rattle.type_rules.specs.declared.operators.Rule.TheVariants.{Unknown, Wrong, Arithmetic, Comparison, Shift, Logical, Move, MoveBy, Difference, ComparePointers}
use Rattle.type_rules.specs.declared.unary.UnaryRule.{UnaryRule}
use Rattle.type_rules.specs.declared.unary.UnaryRule.TheVariants as unary
use Rattle.type_rules.specs.Types.{is_same_elem, is_bad, is_integer, is_scalar, elem_type}

-- the operands are possible, each alone, and don't go together: the right one is wrong
abbrev pub at_right : Rule
at_right = Wrong false true

-- an operand of type Bad brings no fault, and one that isn't taken is wrong whatever the other is
abbrev pub judged : (bad takes_left takes_right : Bool) → Rule → Rule
judged true left right rule = Unknown
judged false true true rule = rule
judged false left right rule = Wrong (not left) (not right)

-- the rule of two operands, each of which is taken or not
abbrev pub where_taken : (taken : «Type» → Bool) → Value → Value → Rule → Rule
where_taken taken v w = judged (is_bad v.ty || is_bad w.ty) (taken v.ty) (taken w.ty)

-- what the operator takes as an operand, whatever the other one is
abbrev pub takes : BinaryOp → «Type» → Bool
takes Multiply = is_integer
takes Divide = is_integer
takes Remainder = is_integer
takes Add = is_scalar
takes Subtract = is_scalar
takes ShiftLeft = is_integer
takes ShiftRight = is_integer
takes Less = is_scalar
takes Greater = is_scalar
takes LessEqual = is_scalar
takes GreaterEqual = is_scalar
takes Equal = is_scalar
takes NotEqual = is_scalar
takes BitAnd = is_integer
takes BitXor = is_integer
takes BitOr = is_integer
takes LogicalAnd = is_scalar
takes LogicalOr = is_scalar

-- of two integers: the usual conversions (C99 6.3.1.8)
abbrev pub arithmetic : «Type» → «Type» → Rule
arithmetic (Int a) (Int b) = Arithmetic (usual a b)
arithmetic a b = at_right

-- each operand is promoted alone, and the result has the left one's type (C99 6.5.7p3)
abbrev pub shift : «Type» → «Type» → Rule
shift (Int a) (Int b) = Shift (promoted a)
shift a b = at_right

-- two integers, or a pointer that is moved by an integer on either side (C99 6.5.6p2)
abbrev pub sum : «Type» → «Type» → Rule
sum (Int a) (Int b) = Arithmetic (usual a b)
sum (Pointer e fixed) (Int b) = Move
sum (Int a) (Pointer e fixed) = MoveBy
sum a b = at_right

-- two integers, a pointer less an integer, or two pointers of one pointee, const aside (C99 6.5.6p3)
abbrev pub difference : «Type» → «Type» → Rule
difference (Int a) (Int b) = Arithmetic (usual a b)
difference (Pointer e fixed) (Int b) = Move
difference (Pointer e fixed) (Pointer e' fixed') = if is_same_elem e e' then Difference else at_right
difference a b = at_right

-- of two pointers, that may be compared or not
abbrev pub pointers : Bool → Rule
pointers same = if same then ComparePointers else at_right

-- pointers of one pointee, const aside, or one and a null constant (C99 6.5.8p2, 6.5.9p2)
abbrev pub compared : «Type» → Bool → «Type» → Bool → Rule
compared (Int a) null (Int b) null' = Comparison (usual a b)
compared (Pointer e fixed) null (Pointer e' fixed') null' = pointers (is_same_elem e e')
compared (Pointer e fixed) null (Int b) null' = pointers null'
compared (Int a) null (Pointer e fixed) null' = pointers null
compared a null b null' = at_right

abbrev pub comparison : Value → Value → Rule
comparison v w = compared v.ty v.null w.ty w.null

-- what the operator does with two operands, each of which it takes
abbrev pub pair_rule : BinaryOp → Value → Value → Rule
pair_rule Multiply v w = arithmetic v.ty w.ty
pair_rule Divide v w = arithmetic v.ty w.ty
pair_rule Remainder v w = arithmetic v.ty w.ty
pair_rule Add v w = sum v.ty w.ty
pair_rule Subtract v w = difference v.ty w.ty
pair_rule ShiftLeft v w = shift v.ty w.ty
pair_rule ShiftRight v w = shift v.ty w.ty
pair_rule Less v w = comparison v w
pair_rule Greater v w = comparison v w
pair_rule LessEqual v w = comparison v w
pair_rule GreaterEqual v w = comparison v w
pair_rule Equal v w = comparison v w
pair_rule NotEqual v w = comparison v w
pair_rule BitAnd v w = arithmetic v.ty w.ty
pair_rule BitXor v w = arithmetic v.ty w.ty
pair_rule BitOr v w = arithmetic v.ty w.ty
pair_rule LogicalAnd v w = Logical
pair_rule LogicalOr v w = Logical

-- v op w
unfoldable pub binary_rule : BinaryOp → Value → Value → Rule
binary_rule op v w = where_taken (takes op) v w (pair_rule op v w)

-- a pointer and an integer, in either order (C99 6.5.2.1p1); of two integers the left one is wrong
abbrev pub subscript : «Type» → «Type» → Rule
subscript (Pointer e fixed) (Int b) = Move
subscript (Int a) (Pointer e fixed) = MoveBy
subscript (Int a) (Int b) = Wrong true false
subscript a b = at_right

-- v[w]
unfoldable pub index_rule : Value → Value → Rule
index_rule v w = where_taken is_scalar v w (subscript v.ty w.ty)

-- the type of what the rule gives for the operands v and w
abbrev pub rule_type : Rule → Value → Value → «Type»
rule_type Unknown v w = Bad
rule_type (Wrong left right) v w = Bad
rule_type (Arithmetic t) v w = Int t
rule_type (Comparison t) v w = Int int.Int
rule_type (Shift t) v w = Int t
rule_type Logical v w = Int int.Int
rule_type Move v w = v.ty
rule_type MoveBy v w = w.ty
rule_type Difference v w = Int int.Long
rule_type ComparePointers v w = Int int.Int

-- + - ~ of a value of this type: an integer, which is promoted (C99 6.5.3.3)
unfoldable pub promoted_rule : «Type» → UnaryRule
promoted_rule Bad = unary.Unknown
promoted_rule (Int t) = unary.Gives (Int (promoted t))
promoted_rule t = unary.Wrong

-- ! of it: an integer or a pointer, to int (C99 6.5.3.3p5)
unfoldable pub not_rule : «Type» → UnaryRule
not_rule Bad = unary.Unknown
not_rule (Int t) = unary.Gives (Int int.Int)
not_rule (Pointer e fixed) = unary.Gives (Int int.Int)
not_rule t = unary.Wrong

-- ++ and --, before or behind an object of this type: an integer or a pointer (C99 6.5.2.4, 6.5.3.1)
unfoldable pub step_rule : «Type» → UnaryRule
step_rule Bad = unary.Unknown
step_rule (Int t) = unary.Gives (Int t)
step_rule (Pointer e fixed) = unary.Gives (Pointer e fixed)
step_rule t = unary.Wrong

-- * of it, and the object to the left of -> (C99 6.5.3.2p2, 6.5.2.3p2): the type of the pointee
unfoldable pub deref_rule : «Type» → UnaryRule
deref_rule Bad = unary.Unknown
deref_rule (Pointer e fixed) = unary.Gives (elem_type e)
deref_rule t = unary.Wrong
