-- The integers of which objects consist.
use Rattle.std.specs.Prelude.{ℕ, zero, suc, List, [], ◌∷◌, ◌++◌, length, slice_get, unwrap_or, get_or}
use Rattle.std.specs.List.{flat_map}
use Rattle.pt_base.specs.declared.int_type.IntType.{IntType}
use Rattle.pt_tree.specs.declared.signature.Elem.{Elem}
use Rattle.pt_tree.specs.declared.signature.Elem.TheVariants as e
use Rattle.typed_tree.specs.declared.types.VarTy.{VarTy}
use Rattle.typed_tree.specs.declared.types.VarTy.TheVariants.{Int, Struct, Array, Pointer}
use Rattle.typed_tree.specs.declared.types.StructInfo.{StructInfo}
use Rattle.pt_base.specs.declared.int_type.IntType.TheVariants as i

-- so many times the list
abbrev pub repeated : {A : Type 0} → ℕ → List A → List A
repeated zero xs = []
repeated (suc n) xs = xs ++ repeated n xs

-- the leaves of an element, by those of each struct; a struct that isn't there has none
abbrev pub element_leaves : List (List IntType) → Elem → List IntType
element_leaves known (e.Int t) = t ∷ []
element_leaves known (e.Struct n) = unwrap_or (slice_get known n) []

-- the leaves of an object, by those of each struct
abbrev pub object_leaves : List (List IntType) → VarTy → List IntType
object_leaves known (Int t) = t ∷ []
object_leaves known (Struct n) = unwrap_or (slice_get known n) []
object_leaves known (Array elem count) = repeated count (element_leaves known elem)
object_leaves known (Pointer elem fixed) = []

-- the leaves of a struct, by those of the structs before it
abbrev pub struct_leaves : List (List IntType) → StructInfo → List IntType
struct_leaves known s = flat_map (λ f. object_leaves known f.ty) s.fields

-- the leaves of each struct, behind those of the structs before
abbrev pub leaves_from : List (List IntType) → List StructInfo → List (List IntType)
leaves_from known [] = known
leaves_from known (s ∷ rest) = leaves_from (known ++ struct_leaves known s ∷ []) rest

-- the integers of an object in declaration order, each with its type; a pointer has none
unfoldable pub leaves_of : List StructInfo → VarTy → List IntType
leaves_of structs ty = object_leaves (leaves_from [] structs) ty

-- how many integers an object has
abbrev pub cells_of : List StructInfo → VarTy → ℕ
cells_of structs ty = length (leaves_of structs ty)

-- the type at a place of a list; int past its end
abbrev pub type_at : List VarTy → ℕ → VarTy
type_at types n = get_or types n (Int i.Int)
