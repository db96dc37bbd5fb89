-- The types of expressions and of places, as code names them.
use Rattle.std.specs.Prelude.{ℕ, List, [], ◌∷◌, false, get_or, nat_eq, unwrap_or}
use Rattle.std.specs.Map.{lookup}
use Rattle.pt_base.specs.declared.int_type.IntType.TheVariants as i
use Rattle.pt_int.specs.Operator.{binary_type, unary_type}
use Rattle.pt_tree.specs.declared.signature.Elem.{Elem}
use Rattle.pt_tree.specs.declared.signature.Elem.TheVariants as e
use Rattle.typed_tree.specs.declared.types.VarTy.{VarTy}
use Rattle.typed_tree.specs.declared.types.VarTy.TheVariants.{Int, Struct, Array, Pointer}
use Rattle.typed_tree.specs.declared.types.StructInfo.{StructInfo}
use Rattle.typed_tree.specs.Cells.{leaves_of}
use Rattle.typed_tree.specs.Sizes.{sizes_of, elem_cells, fields_of}
use Rattle.typed_tree.specs.TypeTests.{type_of_elem}
use Rattle.block_memory.specs.declared.shape.BlockShape.{BlockShape}
use Rattle.block_memory.specs.declared.shape.BlockShape.TheVariants.{OnePointer, Ints}
use Rattle.pt_core.specs.CodeTree.{RootTree, local, global, deref, PlaceTree, place, ExprTree, constant, read, unary, binary, convert, null, address, decay, move, compare, difference}
pub use Rattle.typed_tree.specs.Cells.{type_at}

-- What code's numbers name: the structs, the globals by their numbers, and the function's variables.
pub record Context : Type 0 where
  pub structs : List StructInfo
  pub globals : List (ℕ × VarTy)
  pub variables : List VarTy

abbrev pub global_type : Context → ℕ → VarTy
global_type c g = unwrap_or (lookup (nat_eq g) c.globals) (Int i.Int)

abbrev pub field_type : List StructInfo → VarTy → ℕ → VarTy
field_type structs (Struct n) k = (get_or (fields_of structs n) k (record { name = []; ty = Int i.Int; marked = false })).ty
field_type structs ty k = ty

abbrev pub path_type : List StructInfo → VarTy → List ℕ → VarTy
path_type structs ty [] = ty
path_type structs ty (k ∷ ks) = path_type structs (field_type structs ty k) ks

-- what a pointer type points to, as an object
abbrev pub pointee_type : VarTy → VarTy
pointee_type (Pointer elem fixed) = type_of_elem elem
pointee_type ty = ty

-- as what an object is pointed to
abbrev pub element_of : VarTy → Elem
element_of (Int t) = e.Int t
element_of (Struct n) = e.Struct n
element_of (Array elem count) = elem
element_of (Pointer elem fixed) = elem

abbrev mutual
  pub type_of : Context → ExprTree → VarTy
  type_of c (constant t v) = Int t
  type_of c (read p) = place_type c p
  type_of c (unary op t a s) = Int (unary_type op t)
  type_of c (binary op t a b s) = Int (binary_type op t)
  type_of c (convert to a) = Int to
  type_of c (null elem) = Pointer elem false
  type_of c (address p) = Pointer (element_of (place_type c p)) false
  type_of c (decay p) = Pointer (element_of (place_type c p)) false
  type_of c (move p by back s) = type_of c p
  type_of c (compare op a b s) = Int i.Int
  type_of c (difference a b s) = Int i.Long

  pub place_type : Context → PlaceTree → VarTy
  place_type c (place root path) = path_type c.structs (root_type c root) path

  pub root_type : Context → RootTree → VarTy
  root_type c (local v) = type_at c.variables v
  root_type c (global g) = global_type c g
  root_type c (deref p s) = pointee_type (type_of c p)

-- how many cells the elements have to which a pointer of this type points
abbrev pub pointee_cells : Context → VarTy → ℕ
pointee_cells c (Pointer elem fixed) = elem_cells (sizes_of c.structs) elem
pointee_cells c ty = 0

-- the block of a variable of this type
abbrev pub shape_of : List StructInfo → VarTy → BlockShape
shape_of structs (Int t) = Ints (leaves_of structs (Int t))
shape_of structs (Struct n) = Ints (leaves_of structs (Struct n))
shape_of structs (Array elem count) = Ints (leaves_of structs (Array elem count))
shape_of structs (Pointer elem fixed) = OnePointer
