-- What is made of the types of parts, where None is that of a part that isn't well formed.
use Rattle.std.specs.Prelude.{ℕ, List, Bool, false, ◌&&◌, if◌then◌else◌, Option, Some, None, is_some, option_map}
use Rattle.std.specs.Bool.{then_some}
use Rattle.pt_base.specs.declared.int_type.IntType.{IntType}
use Rattle.pt_int.specs.declared.operator.BinOp.{BinOp}
use Rattle.pt_int.specs.declared.operator.UnOp.{UnOp}
use Rattle.pt_int.specs.Operator.{is_shift, binary_type, unary_type}
use Rattle.pt_tree.specs.declared.signature.Elem.{Elem}
use Rattle.typed_tree.specs.declared.types.VarTy.{VarTy}
use Rattle.typed_tree.specs.declared.types.VarTy.TheVariants.{Int, Pointer}
use Rattle.typed_tree.specs.declared.types.StructInfo.{StructInfo}
use Rattle.typed_tree.specs.TypeTests.{same_type, same_types, integer_of, element_of, is_scalar}
use Rattle.typed_tree.specs.TypeRules.{arithmetic_type, shift_type, unary_fits}
use Rattle.pt_core.specs.Types.{field_type, path_type}
use Rattle.pt_core.specs.WellFormedExpression.{stands_for, is_field, is_path}
use Rattle.pt_core.specs.WellFormedStatement.{is_compound}

-- ---- integers

-- the wanted integer type, any where none is named
abbrev pub is_number : Option IntType → Option VarTy → Bool
is_number None o = is_some (integer_of o)
is_number (Some t) o = same_types o (Some (Int t))

-- an operator before an operand that may fit
abbrev pub prefixed : UnOp → IntType → Bool → Option VarTy
prefixed op t fits = then_some (fits && unary_fits op (Some (Int t)) (Some (Int (unary_type op t)))) (Int (unary_type op t))

-- an operator of numbers of this type takes such a right operand
abbrev pub takes_right : BinOp → IntType → Option VarTy → Bool
takes_right op t None = false
takes_right op t (Some b) = is_some (if is_shift op then shift_type (Some t) (integer_of (Some b)) else arithmetic_type op t (Some t) (integer_of (Some b)))

-- an operator between two operands, of which the left one may fit
abbrev pub joined : BinOp → IntType → Bool → Option VarTy → Option VarTy
joined op t fits b = then_some (fits && takes_right op t b) (Int (binary_type op t))

-- ---- objects

-- an integer or a pointer
abbrev pub scalar : Option VarTy → Option VarTy
scalar o = if is_scalar o then o else None

abbrev pub pointer_to : Option Elem → Option VarTy
pointer_to o = option_map (λ elem. Pointer elem false) o

-- the address of what may have one taken
abbrev pub addressed : Bool → Option VarTy → Option VarTy
addressed may o = if may then pointer_to (element_of o) else None

abbrev pub field_in : List StructInfo → VarTy → ℕ → Option VarTy
field_in structs ty k = then_some (is_field structs ty k) (field_type structs ty k)

-- where a path of fields leads
abbrev pub along : List StructInfo → Option VarTy → List ℕ → Option VarTy
along structs None path = None
along structs (Some ty) path = then_some (is_path structs ty path) (path_type structs ty path)

-- ---- statements

-- a value may stand where the first type is wanted
abbrev pub stands : VarTy → Option VarTy → Bool
stands wanted None = false
stands wanted (Some ty) = stands_for ty wanted

-- it may be stored in an object of the first type
abbrev pub stores : Option VarTy → Option VarTy → Bool
stores None o = false
stores (Some to) o = is_scalar (Some to) && stands to o

-- an object may be copied to one of the first type
abbrev pub copies : Option VarTy → Option VarTy → Bool
copies (Some to) (Some ty) = is_compound to && same_type to ty
copies _ _ = false

-- a result, None being void, goes to an object of the second type
abbrev pub receives : Option IntType → Option VarTy → Bool
receives r None = false
receives r (Some ty) = same_types (option_map Int r) (Some ty)
