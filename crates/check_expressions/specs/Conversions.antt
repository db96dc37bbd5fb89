-- Implicit conversions in the typed tree: a form of its own where the type changes, with the operand's
-- span, and none where it stays.
use Rattle.std.specs.Prelude.{Bool, false, Option, Some, None, if◌then◌else◌}
use Rattle.std.proofs.Math.Bool.{beq}
use Rattle.pt_base.specs.IntTypes.{promoted}
use Rattle.pt_base.specs.declared.int_type.IntType.{IntType}
use Rattle.pt_tree.specs.declared.signature.Elem.{Elem}
use Rattle.type_rules.specs.declared.types.Type.{«Type»}
use Rattle.type_rules.specs.declared.types.Type.TheVariants.{Bad, Void, Int, Struct, Array, Pointer}
use Rattle.type_rules.specs.Types.{is_same_int}
use Rattle.typed_tree.specs.declared.types.VarTy.{VarTy}
use Rattle.typed_tree.specs.declared.types.VarTy.TheVariants as v
use Rattle.typed_tree.specs.ExpressionTree.{ExprTree, typed, convert, null}

-- it is a value of this integer type
unfoldable pub is_of_int : IntType → Option VarTy → Bool
is_of_int t None = false
is_of_int t (Some (v.Int u)) = is_same_int t u
is_of_int t (Some (v.Struct n)) = false
is_of_int t (Some (v.Array e count)) = false
is_of_int t (Some (v.Pointer e fixed)) = false

-- it is a pointer whose pointee is const or not, as `fixed` says
unfoldable pub is_of_pointer : Bool → Option VarTy → Bool
is_of_pointer fixed None = false
is_of_pointer fixed (Some (v.Int u)) = false
is_of_pointer fixed (Some (v.Struct n)) = false
is_of_pointer fixed (Some (v.Array e count)) = false
is_of_pointer fixed (Some (v.Pointer e fixed')) = beq fixed fixed'

abbrev pub converted : VarTy → ExprTree → ExprTree
converted t (typed s ty f) = typed s (Some t) (convert (typed s ty f))

-- as a value of the integer type
unfoldable pub to_int : IntType → ExprTree → ExprTree
to_int t (typed s ty f) = if is_of_int t ty then typed s ty f else converted (v.Int t) (typed s ty f)

-- a pointer to such elements as one whose pointee is const or not
unfoldable pub to_pointer : Elem → Bool → ExprTree → ExprTree
to_pointer e fixed (typed s ty f) = if is_of_pointer fixed ty then typed s ty f else converted (v.Pointer e fixed) (typed s ty f)

-- a null constant as a pointer (C99 6.3.2.3p3)
abbrev pub to_null : Elem → Bool → ExprTree → ExprTree
to_null e fixed (typed s ty f) = typed s (Some (v.Pointer e fixed)) null

-- a value as one of the type, which it fits; `is_null` says that it is a null constant
unfoldable pub as_type : «Type» → Bool → ExprTree → ExprTree
as_type Bad is_null x = x
as_type Void is_null x = x
as_type (Int t) is_null x = to_int t x
as_type (Struct n) is_null x = x
as_type (Array e count) is_null x = x
as_type (Pointer e fixed) is_null x = if is_null then to_null e fixed x else to_pointer e fixed x

-- the integer promotions (C99 6.3.1.1p2) of a value of the type
unfoldable pub as_promoted : «Type» → ExprTree → ExprTree
as_promoted Bad x = x
as_promoted Void x = x
as_promoted (Int t) x = to_int (promoted t) x
as_promoted (Struct n) x = x
as_promoted (Array e count) x = x
as_promoted (Pointer e fixed) x = x
