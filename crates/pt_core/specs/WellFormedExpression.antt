-- Which expressions and places are well formed: each number names an entry, each constant is in its
-- range, and each operator has operands of the types that it works on, none of them to be converted.
use Rattle.std.specs.Prelude.{ℕ, List, [], ◌∷◌, Some, Bool, true, false, ◌&&◌, ◌||◌, not, if◌then◌else◌, nat_lt, nat_eq, length, is_some}
use Rattle.std.specs.Map.{lookup}
use Rattle.pt_base.specs.declared.int_type.IntType.{IntType}
use Rattle.pt_int.specs.declared.operator.BinOp.{BinOp}
use Rattle.pt_int.specs.declared.operator.UnOp.{UnOp}
use Rattle.pt_int.specs.Conversion.{is_in_range}
use Rattle.pt_int.specs.Operator.{is_shift, unary_type}
use Rattle.typed_tree.specs.declared.types.VarTy.{VarTy}
use Rattle.typed_tree.specs.declared.types.VarTy.TheVariants.{Int, Struct, Pointer}
use Rattle.typed_tree.specs.declared.types.StructInfo.{StructInfo}
use Rattle.typed_tree.specs.declared.link.LinkStep.TheVariants.{Move, Difference, Compare}
use Rattle.typed_tree.specs.Sizes.{fields_of}
use Rattle.typed_tree.specs.TypeTests.{same_elem, same_type, integer_of, pointee_of, element_of, item_of, is_scalar}
use Rattle.typed_tree.specs.TypeRules.{arithmetic_type, shift_type, stepped, unary_fits}
use Rattle.typed_tree.specs.WellFormedExpression.{is_elem}
use Rattle.pt_core.specs.CodeTree.{RootTree, local, global, deref, PlaceTree, place, ExprTree, constant, read, unary, binary, convert, null, address, decay, move, compare, difference}
use Rattle.pt_core.specs.Types.{Context, field_type, type_of, place_type, root_type}

-- a value of the first type may stand where one of the second is wanted: they are equal, or pointers of
-- which the second alone has a const pointee
abbrev pub stands_for : VarTy → VarTy → Bool
stands_for (Pointer a f) (Pointer b g) = same_elem a b && (not f || g)
stands_for a b = same_type a b

-- a struct has a field of this number
abbrev pub is_field : List StructInfo → VarTy → ℕ → Bool
is_field structs (Struct n) k = nat_lt k (length (fields_of structs n))
is_field structs ty k = false

-- each number is that of a field
abbrev pub is_path : List StructInfo → VarTy → List ℕ → Bool
is_path structs ty [] = true
is_path structs ty (k ∷ ks) = is_field structs ty k && is_path structs (field_type structs ty k) ks

-- an operator before an operand of this type, which is promoted but for `!` (C99 6.5.3.3)
abbrev pub takes_one : UnOp → IntType → VarTy → Bool
takes_one op t a = same_type a (Int t) && unary_fits op (Some (Int t)) (Some (Int (unary_type op t)))

-- an operator between two operands of this promoted type; a shift's right operand has a promoted type of
-- its own (C99 6.5.5 to 6.5.12)
abbrev pub takes_two : BinOp → IntType → VarTy → VarTy → Bool
takes_two op t a b =
    same_type a (Int t)
    && is_some (if is_shift op then shift_type (Some t) (integer_of (Some b)) else arithmetic_type op t (Some t) (integer_of (Some b)))

-- `&` may stand before it: a variable or global, or a field
abbrev pub is_addressed : PlaceTree → Bool
is_addressed (place (local v) path) = true
is_addressed (place (global g) path) = true
is_addressed (place (deref a s) []) = false
is_addressed (place (deref a s) (k ∷ ks)) = true

abbrev mutual
  pub expr_fits : Context → ExprTree → Bool
  expr_fits c (constant t v) = is_in_range t v
  expr_fits c (read p) = place_fits c p && is_scalar (Some (place_type c p))
  expr_fits c (unary op t a s) = expr_fits c a && takes_one op t (type_of c a)
  expr_fits c (binary op t a b s) = (expr_fits c a && expr_fits c b) && takes_two op t (type_of c a) (type_of c b)
  expr_fits c (convert to a) = expr_fits c a && is_some (integer_of (Some (type_of c a)))
  expr_fits c (null elem) = is_elem (length c.structs) (Some elem)
  expr_fits c (address p) = place_fits c p && (is_addressed p && is_some (element_of (Some (place_type c p))))
  expr_fits c (decay p) = place_fits c p && is_some (item_of (Some (place_type c p)))
  expr_fits c (move a b back s) = (expr_fits c a && expr_fits c b) && is_some (stepped (Some (type_of c a)) (Move back) (Some (type_of c b)))
  expr_fits c (compare op a b s) = (expr_fits c a && expr_fits c b) && is_some (stepped (Some (type_of c a)) (Compare op) (Some (type_of c b)))
  expr_fits c (difference a b s) = (expr_fits c a && expr_fits c b) && is_some (stepped (Some (type_of c a)) Difference (Some (type_of c b)))

  pub place_fits : Context → PlaceTree → Bool
  place_fits c (place root path) = root_fits c root && is_path c.structs (root_type c root) path

  pub root_fits : Context → RootTree → Bool
  root_fits c (local v) = nat_lt v (length c.variables)
  root_fits c (global g) = is_some (lookup (nat_eq g) c.globals)
  root_fits c (deref a s) = expr_fits c a && is_some (pointee_of (Some (type_of c a)))
