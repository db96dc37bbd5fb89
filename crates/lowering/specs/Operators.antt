-- Operators and conversions in the normal form, whose operands have their types.
use Rattle.std.specs.Prelude.{ℕ, ℤ, pos, true, false, List, [], ◌∷◌, Option, Some, None, if◌then◌else◌}
use Rattle.pt_base.specs.declared.int_type.IntType.{IntType}
use Rattle.pt_base.specs.declared.int_type.IntType.TheVariants as i
use Rattle.pt_base.specs.IntTypes.{promoted, usual}
use Rattle.pt_base.specs.declared.span.Span.{Span}
use Rattle.pt_int.specs.declared.operator.BinOp.TheVariants.{Eq, Ne}
use Rattle.pt_int.specs.declared.operator.UnOp.{UnOp}
use Rattle.pt_int.specs.declared.operator.UnOp.TheVariants as u
use Rattle.pt_tree.specs.declared.signature.Elem.{Elem}
use Rattle.typed_tree.specs.declared.types.VarTy.{VarTy}
use Rattle.typed_tree.specs.declared.types.VarTy.TheVariants.{Int, Struct, Array, Pointer}
use Rattle.typed_tree.specs.declared.link.LinkStep.{LinkStep}
use Rattle.typed_tree.specs.declared.link.LinkStep.TheVariants.{Arithmetic, Shift, Move, MoveBy, Difference, Compare}
use Rattle.typed_tree.specs.TypeTests.{same_int}
use Rattle.pt_core.specs.CodeTree.{ExprTree, constant, unary, binary, convert, null, move, compare, difference}
pub use Rattle.source_meaning.specs.Values.{promoted_of, shift_of, unit_step}

-- a number converted to the type, where it isn't of it
abbrev pub as_int : VarTy → IntType → ExprTree → ExprTree
as_int (Int t) to a = if same_int t to then a else convert to a
as_int (Struct n) to a = a
as_int (Array elem count) to a = a
as_int (Pointer elem fixed) to a = a

-- a conversion that is written: of a number to an integer type; a pointer stays as it is
abbrev pub converted : VarTy → ExprTree → ExprTree
converted (Int to) a = convert to a
converted ty a = a

-- an operator before its operand; `!` of a pointer asks whether it is null
abbrev pub prefixed : UnOp → VarTy → ExprTree → Span → ExprTree
prefixed op (Int t) a s = unary op t a s
prefixed u.Not (Pointer elem fixed) a s = compare Eq a (null elem) s
prefixed op ty a s = a

-- 1 where the value isn't 0 or null, else 0
abbrev pub truth_of : VarTy → ExprTree → Span → ExprTree
truth_of (Int t) a s = unary u.Not i.Int (unary u.Not t a s) s
truth_of (Pointer elem fixed) a s = compare Ne a (null elem) s
truth_of ty a s = a

-- a step from the value so far, of this type, with an operand
abbrev pub stepped : VarTy → LinkStep → ExprTree → ExprTree → Span → ExprTree
stepped ty (Arithmetic op t) a b s = binary op t (as_int ty t a) b s
stepped ty (Shift left) a b s = binary (shift_of left) (promoted_of ty) (as_int ty (promoted_of ty) a) b s
stepped ty (Move back) a b s = move a b back s
stepped ty MoveBy a b s = move b a false s
stepped ty Difference a b s = difference a b s
stepped ty (Compare op) a b s = compare op a b s

-- the integer type in which a compound assignment computes; its result is converted to the place's type
-- (C99 6.5.16.2p3)
abbrev pub stored : VarTy → LinkStep → ExprTree → ExprTree
stored (Int to) (Arithmetic op t) a = as_int (Int t) to a
stored (Int to) (Shift left) a = as_int (Int (promoted to)) to a
stored ty step a = a

-- the 1 that is added, of the type in which it is added
abbrev pub unit_of : VarTy → ExprTree
unit_of (Int t) = constant (usual t i.Int) (pos 1)
unit_of ty = constant i.Int (pos 1)
