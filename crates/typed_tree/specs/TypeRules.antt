-- Which type an operator gives, by the types of its operands (C99 6.5), None being void.
use Rattle.std.specs.Prelude.{Bool, true, false, ◌&&◌, ◌||◌, not, Option, Some, None, if◌then◌else◌, is_some}
use Rattle.pt_base.specs.declared.int_type.IntType.{IntType}
use Rattle.pt_base.specs.declared.int_type.IntType.TheVariants as t
use Rattle.pt_base.specs.IntTypes.{promoted, usual}
use Rattle.pt_int.specs.declared.operator.BinOp.{BinOp}
use Rattle.pt_int.specs.declared.operator.UnOp.{UnOp}
use Rattle.pt_int.specs.declared.operator.UnOp.TheVariants.{Minus, Plus, Flip, Not}
use Rattle.pt_int.specs.Operator.{is_shift, binary_type}
use Rattle.typed_tree.specs.declared.link.LinkStep.{LinkStep}
use Rattle.typed_tree.specs.declared.link.LinkStep.TheVariants.{Arithmetic, Shift, Move, MoveBy, Difference, Compare}
use Rattle.typed_tree.specs.declared.types.VarTy.{VarTy}
use Rattle.typed_tree.specs.declared.types.VarTy.TheVariants.{Int, Struct, Array, Pointer}
use Rattle.typed_tree.specs.TypeTests.{same_int, same_elem, same_types, both_elem, integer_of, pointee_of, is_scalar}
pub use Rattle.pt_int.specs.Comparisons.{is_comparison}

abbrev pub is_promoted : IntType → Bool
is_promoted t = same_int (promoted t) t

abbrev pub int : Option VarTy
int = Some (Int t.Int)

-- an int, where the test holds
abbrev pub int_where : Bool → Option VarTy
int_where holds = if holds then int else None

-- an integer operator at a type: the value so far has one with which the usual conversions give
-- this type, and the operand has it
abbrev pub arithmetic_type : BinOp → IntType → Option IntType → Option IntType → Option VarTy
arithmetic_type op t (Some a) (Some b) =
    if not (is_shift op) && (same_int (usual a t) t && same_int b t) then Some (Int (binary_type op t)) else None
arithmetic_type op t _ _ = None

-- a shift of a promoted type by a promoted type (C99 6.5.7p3)
abbrev pub shift_type : Option IntType → Option IntType → Option VarTy
shift_type (Some a) (Some b) = if is_promoted a && is_promoted b then Some (Int a) else None
shift_type _ _ = None

-- a pointer moved by an integer (C99 6.5.6p8)
abbrev pub moved_type : Option VarTy → Option VarTy → Option VarTy
moved_type pointer by = if is_some (pointee_of pointer) && is_some (integer_of by) then pointer else None

-- what a step gives, by the type of the value so far and that of the operand; None where it doesn't
-- fit them
abbrev pub stepped : Option VarTy → LinkStep → Option VarTy → Option VarTy
stepped a (Arithmetic op t) b = arithmetic_type op t (integer_of a) (integer_of b)
stepped a (Shift left) b = shift_type (integer_of a) (integer_of b)
stepped a (Move back) b = moved_type a b
stepped a MoveBy b = moved_type b a
stepped a Difference b = if both_elem (pointee_of a) (pointee_of b) then Some (Int t.Long) else None
stepped a (Compare op) b = int_where (is_comparison op && both_elem (pointee_of a) (pointee_of b))

-- a step that a compound assignment can take: * / % + - << >> & ^ | (C99 6.5.16)
abbrev pub is_compound : LinkStep → Bool
is_compound (Arithmetic op t) = not (is_comparison op)
is_compound (Shift left) = true
is_compound (Move back) = true
is_compound MoveBy = false
is_compound Difference = false
is_compound (Compare op) = false

-- an integer's type promoted, any other as it is
abbrev pub promoted_value : Option VarTy → Option VarTy
promoted_value None = None
promoted_value (Some (Int t)) = Some (Int (promoted t))
promoted_value (Some (Struct n)) = Some (Struct n)
promoted_value (Some (Array elem count)) = Some (Array elem count)
promoted_value (Some (Pointer elem fixed)) = Some (Pointer elem fixed)

-- a conversion: integer to integer, pointer to a pointee that is const where it was
abbrev pub converts : Option VarTy → Option VarTy → Bool
converts (Some (Int a)) (Some (Int b)) = true
converts (Some (Pointer a f)) (Some (Pointer b g)) = same_elem a b && (not f || g)
converts _ _ = false

-- both are of one promoted type
abbrev pub is_same_promoted : Option VarTy → Option VarTy → Bool
is_same_promoted (Some (Int a)) (Some (Int b)) = same_int a b && is_promoted b
is_same_promoted _ _ = false

-- an operator before its operand, which is promoted but for ! (C99 6.5.3.3)
abbrev pub unary_fits : UnOp → Option VarTy → Option VarTy → Bool
unary_fits Minus a t = is_same_promoted a t
unary_fits Plus a t = is_same_promoted a t
unary_fits Flip a t = is_same_promoted a t
unary_fits Not a t = is_scalar a && same_types t int

-- the common type of the arms of ?: (C99 6.5.15), which no struct is here
abbrev pub is_arm : Option VarTy → Bool
is_arm None = true
is_arm (Some (Int t)) = is_promoted t
is_arm (Some (Struct n)) = false
is_arm (Some (Array elem count)) = false
is_arm (Some (Pointer elem fixed)) = true
