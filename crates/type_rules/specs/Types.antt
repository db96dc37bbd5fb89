-- Types, operands as values, and which types are one.
use Rattle.std.specs.Prelude.{Bool, true, false, nat_eq}
use Rattle.pt_base.specs.declared.int_type.IntType.{IntType}
use Rattle.pt_base.specs.declared.int_type.IntType.TheVariants.{Char, SChar, UChar, Short, UShort, Int, UInt, Long, ULong}
use Rattle.pt_tree.specs.declared.signature.Elem.{Elem}
use Rattle.pt_tree.specs.declared.signature.Elem.TheVariants as elem
use Rattle.type_rules.specs.declared.types.Type.{«Type»}
use Rattle.type_rules.specs.declared.types.Type.TheVariants as ty

-- both are one integer type; char is neither signed char nor unsigned char (C99 6.2.5p15)
abbrev pub is_same_int : IntType → IntType → Bool
is_same_int Char Char = true
is_same_int SChar SChar = true
is_same_int UChar UChar = true
is_same_int Short Short = true
is_same_int UShort UShort = true
is_same_int Int Int = true
is_same_int UInt UInt = true
is_same_int Long Long = true
is_same_int ULong ULong = true
is_same_int a b = false

-- both are one type of elements: structs by their number
abbrev pub is_same_elem : Elem → Elem → Bool
is_same_elem (elem.Int a) (elem.Int b) = is_same_int a b
is_same_elem (elem.Struct m) (elem.Struct n) = nat_eq m n
is_same_elem a b = false

-- the type of what is faulty
abbrev pub is_bad : «Type» → Bool
is_bad ty.Bad = true
is_bad t = false

-- an integer type
abbrev pub is_integer : «Type» → Bool
is_integer (ty.Int t) = true
is_integer t = false

-- integers and pointers are the scalar types (C99 6.2.5p21)
abbrev pub is_scalar : «Type» → Bool
is_scalar (ty.Int t) = true
is_scalar (ty.Pointer e fixed) = true
is_scalar t = false

-- the type of an element
abbrev pub elem_type : Elem → «Type»
elem_type (elem.Int t) = ty.Int t
elem_type (elem.Struct n) = ty.Struct n

-- the type of an object's value: an array's is a pointer to its elements (C99 6.3.2.1p3)
abbrev pub value_type : «Type» → Bool → «Type»
value_type (ty.Array e count) fixed = ty.Pointer e fixed
value_type t fixed = t
