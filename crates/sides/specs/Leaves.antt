-- The integers of which objects consist, named by the fields that lead to them. The elements of an array
-- share their leaves, and the leaves of a pointer are those of what it points to.
use Rattle.std.specs.Prelude.{ℕ, suc, ◌+◌, List, [], ◌∷◌, ◌++◌, Bool, false, ◌||◌, Option, None, Some, length, map, get_or}
use Rattle.pt_tree.specs.declared.signature.Elem.{Elem}
use Rattle.pt_tree.specs.declared.signature.Elem.TheVariants as e
use Rattle.typed_tree.specs.declared.types.VarTy.{VarTy}
use Rattle.typed_tree.specs.declared.types.VarTy.TheVariants.{Int, Struct, Array, Pointer}
use Rattle.typed_tree.specs.declared.types.Field.{Field}
use Rattle.typed_tree.specs.declared.types.StructInfo.{StructInfo}
use Rattle.typed_tree.specs.Sizes.{fields_of}

-- the numbers of the fields that lead to it, and whether one of these is marked `priv`
pub record Leaf : Type 0 where
  pub path : List ℕ
  pub marked : Bool

-- an integer by itself
abbrev pub whole : Leaf
whole = record { path = []; marked = false }

-- a leaf of a field, as one of the struct
abbrev pub leaf_of_field : ℕ → Bool → Leaf → Leaf
leaf_of_field k marked leaf = record { path = k ∷ leaf.path; marked = marked || leaf.marked }

-- the leaves of an element, by those of each struct
abbrev pub elem_leaves : List (List Leaf) → Elem → List Leaf
elem_leaves known (e.Int t) = whole ∷ []
elem_leaves known (e.Struct n) = get_or known n []

-- the leaves of an object, by those of each struct
abbrev pub type_leaves : List (List Leaf) → VarTy → List Leaf
type_leaves known (Int t) = whole ∷ []
type_leaves known (Struct n) = get_or known n []
type_leaves known (Array elem count) = elem_leaves known elem
type_leaves known (Pointer elem fixed) = elem_leaves known elem

-- the leaves of these fields, of which the first has the number k
abbrev pub fields_leaves : List (List Leaf) → ℕ → List Field → List Leaf
fields_leaves known k [] = []
fields_leaves known k (f ∷ fs) = map (leaf_of_field k f.marked) (type_leaves known f.ty) ++ fields_leaves known (suc k) fs

-- the leaves of each struct, behind those of the structs before, which its fields name
abbrev pub leaves_after : List (List Leaf) → List StructInfo → List (List Leaf)
leaves_after known [] = known
leaves_after known (s ∷ ss) = leaves_after (known ++ fields_leaves known 0 s.fields ∷ []) ss

-- the leaves of an object, in the order of declaration
unfoldable pub leaves_of : List StructInfo → VarTy → List Leaf
leaves_of structs ty = type_leaves (leaves_after [] structs) ty

-- how many leaves an object has
abbrev pub leaf_count : List StructInfo → VarTy → ℕ
leaf_count structs ty = length (leaves_of structs ty)

-- where the leaves of each of these fields begin, those of the first at this number, where types have so many
abbrev pub field_starts : (VarTy → ℕ) → ℕ → List Field → List ℕ
field_starts count start [] = []
field_starts count start (f ∷ fs) = start ∷ field_starts count (start + count f.ty) fs

-- where the leaves of the field k of a struct begin among those of the struct
abbrev pub field_start : List StructInfo → ℕ → ℕ → ℕ
field_start structs n k = get_or (field_starts (leaf_count structs) 0 (fields_of structs n)) k 0

-- how many leaves a value has, where types have so many; void has none
abbrev pub value_count : (VarTy → ℕ) → Option VarTy → ℕ
value_count count None = 0
value_count count (Some ty) = count ty
