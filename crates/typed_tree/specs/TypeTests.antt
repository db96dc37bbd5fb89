-- Tests of types: which are equal, and of which kind one is. None is void.
use Rattle.std.specs.Prelude.{ℕ, Bool, true, false, ◌&&◌, not, Option, Some, None, nat_eq, ℤ}
use Rattle.pt_base.specs.declared.int_type.IntType.{IntType}
pub use Rattle.pt_base.specs.IntTypes.{place_of, same_int}
use Rattle.pt_tree.specs.declared.signature.Elem.{Elem}
use Rattle.pt_tree.specs.declared.signature.Elem.TheVariants as e
use Rattle.typed_tree.specs.declared.types.VarTy.{VarTy}
use Rattle.typed_tree.specs.declared.types.VarTy.TheVariants.{Int, Struct, Array, Pointer}

abbrev pub same_bool : Bool → Bool → Bool
same_bool true b = b
same_bool false b = not b

abbrev pub same_elem : Elem → Elem → Bool
same_elem (e.Int a) (e.Int b) = same_int a b
same_elem (e.Int a) (e.Struct n) = false
same_elem (e.Struct m) (e.Int b) = false
same_elem (e.Struct m) (e.Struct n) = nat_eq m n

-- the integer type, where it is one
abbrev pub integer_of : Option VarTy → Option IntType
integer_of None = None
integer_of (Some (Int t)) = Some t
integer_of (Some (Struct n)) = None
integer_of (Some (Array elem count)) = None
integer_of (Some (Pointer elem fixed)) = None

-- what a pointer points to, where it is one
abbrev pub pointee_of : Option VarTy → Option Elem
pointee_of None = None
pointee_of (Some (Int t)) = None
pointee_of (Some (Struct n)) = None
pointee_of (Some (Array elem count)) = None
pointee_of (Some (Pointer elem fixed)) = Some elem

-- a pointer to a const pointee
abbrev pub points_to_const : Option VarTy → Bool
points_to_const None = false
points_to_const (Some (Int t)) = false
points_to_const (Some (Struct n)) = false
points_to_const (Some (Array elem count)) = false
points_to_const (Some (Pointer elem fixed)) = fixed

-- as what an object is pointed to, where it is no array and no pointer
abbrev pub element_of : Option VarTy → Option Elem
element_of None = None
element_of (Some (Int t)) = Some (e.Int t)
element_of (Some (Struct n)) = Some (e.Struct n)
element_of (Some (Array elem count)) = None
element_of (Some (Pointer elem fixed)) = None

-- what an array consists of, where it is one
abbrev pub item_of : Option VarTy → Option Elem
item_of None = None
item_of (Some (Int t)) = None
item_of (Some (Struct n)) = None
item_of (Some (Array elem count)) = Some elem
item_of (Some (Pointer elem fixed)) = None

-- an element as an object
abbrev pub type_of_elem : Elem → VarTy
type_of_elem (e.Int t) = Int t
type_of_elem (e.Struct n) = Struct n

abbrev pub same_type : VarTy → VarTy → Bool
same_type (Int a) (Int b) = same_int a b
same_type (Struct m) (Struct n) = nat_eq m n
same_type (Array a m) (Array b n) = same_elem a b && nat_eq m n
same_type (Pointer a f) (Pointer b g) = same_elem a b && same_bool f g
same_type _ _ = false

abbrev pub same_types : Option VarTy → Option VarTy → Bool
same_types None None = true
same_types (Some a) (Some b) = same_type a b
same_types _ _ = false

-- both are there, and equal
abbrev pub both_elem : Option Elem → Option Elem → Bool
both_elem (Some a) (Some b) = same_elem a b
both_elem _ _ = false

-- both are there, and equal
abbrev pub both_int : Option IntType → Option IntType → Bool
both_int (Some a) (Some b) = same_int a b
both_int _ _ = false

-- an integer or a pointer
abbrev pub is_scalar : Option VarTy → Bool
is_scalar None = false
is_scalar (Some (Int t)) = true
is_scalar (Some (Struct n)) = false
is_scalar (Some (Array elem count)) = false
is_scalar (Some (Pointer elem fixed)) = true

-- the type of a value: any but void and an array's
abbrev pub is_value : Option VarTy → Bool
is_value None = false
is_value (Some (Int t)) = true
is_value (Some (Struct n)) = true
is_value (Some (Array elem count)) = false
is_value (Some (Pointer elem fixed)) = true

abbrev pub is_pointer : VarTy → Bool
is_pointer (Int t) = false
is_pointer (Struct n) = false
is_pointer (Array elem count) = false
is_pointer (Pointer elem fixed) = true

-- there is a number, and it has this type
abbrev pub is_stored : IntType → Option (IntType × ℤ) → Bool
is_stored t None = false
is_stored t (Some entry) = same_int t entry.0
