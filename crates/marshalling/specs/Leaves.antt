-- The cells of what is pointed to: each cell's type, and whether a field marked `priv` leads to it. Only
-- fields of the element itself count, or of structs inside it: an integer by itself has no mark.
use Rattle.std.specs.Prelude.{ℕ, suc, List, [], ◌∷◌, ◌++◌, Bool, true, false, ◌&&◌, ◌||◌, length, map, nat_lt, slice_get, unwrap_or}
use Rattle.std.specs.List.{flat_map, list_all}
use Rattle.pt_tree.specs.declared.signature.Elem.{Elem}
use Rattle.pt_tree.specs.declared.signature.Elem.TheVariants as e
use Rattle.pt_tree.specs.declared.signature.Param.{Param}
use Rattle.pt_tree.specs.declared.signature.ParamKind.{ParamKind}
use Rattle.pt_tree.specs.declared.signature.ParamKind.TheVariants as kind
use Rattle.typed_tree.specs.declared.types.VarTy.{VarTy}
use Rattle.typed_tree.specs.declared.types.VarTy.TheVariants.{Int, Struct, Array, Pointer}
use Rattle.typed_tree.specs.declared.types.Field.{Field}
use Rattle.typed_tree.specs.declared.types.StructInfo.{StructInfo}
use Rattle.typed_tree.specs.Cells.{repeated}
use Rattle.marshalling.specs.declared.leaf.Leaf.{Leaf}

-- a leaf of a field, as one of the struct
abbrev pub under : Bool → Leaf → Leaf
under marked leaf = record { ty = leaf.ty; marked = marked || leaf.marked }

-- the leaves of an element, by those of each struct; a struct that isn't there has none
abbrev pub element_leaves : List (List Leaf) → Elem → List Leaf
element_leaves known (e.Int t) = record { ty = t; marked = false } ∷ []
element_leaves known (e.Struct n) = unwrap_or (slice_get known n) []

-- the leaves of an object, by those of each struct
abbrev pub object_leaves : List (List Leaf) → VarTy → List Leaf
object_leaves known (Int t) = record { ty = t; marked = false } ∷ []
object_leaves known (Struct n) = unwrap_or (slice_get known n) []
object_leaves known (Array elem count) = repeated count (element_leaves known elem)
object_leaves known (Pointer elem fixed) = []

-- the leaves of a field, by those of each struct
abbrev pub field_leaves : List (List Leaf) → Field → List Leaf
field_leaves known f = map (under f.marked) (object_leaves known f.ty)

-- the leaves of each struct, behind those of the structs before, which its fields name
abbrev pub leaves_from : List (List Leaf) → List StructInfo → List (List Leaf)
leaves_from known [] = known
leaves_from known (s ∷ rest) = leaves_from (known ++ flat_map (field_leaves known) s.fields ∷ []) rest

-- the cells of an element in the order of declaration
unfoldable pub leaves_of : List StructInfo → Elem → List Leaf
leaves_of structs elem = element_leaves (leaves_from [] structs) elem

-- the cells of so many elements, one after another
abbrev pub range_leaves : List StructInfo → Elem → ℕ → List Leaf
range_leaves structs elem count = repeated count (leaves_of structs elem)

-- ---- by parts

-- the cells of an object
abbrev pub object_cells : List StructInfo → VarTy → List Leaf
object_cells structs (Int t) = leaves_of structs (e.Int t)
object_cells structs (Struct n) = leaves_of structs (e.Struct n)
object_cells structs (Array elem count) = range_leaves structs elem count
object_cells structs (Pointer elem fixed) = []

abbrev pub field_cells : List StructInfo → Field → List Leaf
field_cells structs f = map (under f.marked) (object_cells structs f.ty)

-- ---- tables of structs

-- the element is an integer, or one of so many structs
abbrev pub is_elem : ℕ → Elem → Bool
is_elem count (e.Int t) = true
is_elem count (e.Struct n) = nat_lt n count

-- the object names no struct but one of so many
abbrev pub is_object : ℕ → VarTy → Bool
is_object count (Int t) = true
is_object count (Struct n) = nat_lt n count
is_object count (Array elem size) = is_elem count elem
is_object count (Pointer elem fixed) = true

-- the fields of structs, of which the first has this number, name earlier ones only
abbrev pub name_earlier : ℕ → List StructInfo → Bool
name_earlier number [] = true
name_earlier number (s ∷ rest) = list_all (λ f. is_object number f.ty) s.fields && name_earlier (suc number) rest

abbrev pub is_pointee : ℕ → ParamKind → Bool
is_pointee count (kind.Int t) = true
is_pointee count (kind.Ptr elem fixed) = is_elem count elem

-- each struct that a parameter points to has its entry, and each entry's fields name earlier entries only
abbrev pub has_structs : List StructInfo → List Param → Bool
has_structs structs params = name_earlier 0 structs && list_all (λ p. is_pointee (length structs) p.kind) params
