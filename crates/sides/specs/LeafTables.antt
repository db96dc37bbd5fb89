-- The leaves of structs, as code goes over them and counts them.
use Rattle.std.specs.Prelude.{◌≡◌, ℕ, ◌+◌, List, [], ◌∷◌, ◌++◌, Option, None, Some, Bool, ◌||◌, length, map, get_or, take}
use Rattle.pt_tree.specs.declared.signature.Elem.{Elem}
use Rattle.pt_tree.specs.declared.signature.Elem.TheVariants as e
use Rattle.typed_tree.specs.declared.types.VarTy.{VarTy}
use Rattle.typed_tree.specs.declared.types.VarTy.TheVariants.{Int, Struct, Array, Pointer}
use Rattle.typed_tree.specs.declared.types.Field.{Field}
use Rattle.typed_tree.specs.declared.types.StructInfo.{StructInfo}
use Rattle.typed_tree.specs.Sizes.{sizes_of}
use Rattle.sides.specs.declared.leaf_table.LeafTable.{LeafTable}
use Rattle.sides.specs.declared.slots.Owner.{Owner}
use Rattle.sides.specs.declared.slots.SlotInfo.{SlotInfo}
use Rattle.sides.specs.Leaves.{Leaf, whole, leaves_after, leaf_count, field_starts}
pub use Rattle.typed_tree.specs.Sizes.{elem_cells as elem_count}

-- the leaves of the first so many structs
abbrev pub leaves_below : List StructInfo → ℕ → List (List Leaf)
leaves_below structs n = leaves_after [] (take n structs)

-- the slot of a leaf, behind this path, which has a marked field where `marked` holds
abbrev pub slot_behind : Owner → List ℕ → Bool → Leaf → SlotInfo
slot_behind owner path marked leaf = record { owner = owner; path = path ++ leaf.path; marked = marked || leaf.marked }

-- the struct whose leaves an element has, if it is none itself
abbrev pub elem_struct : Elem → Option ℕ
elem_struct (e.Int t) = None
elem_struct (e.Struct n) = Some n

-- the struct whose leaves an object has, if it is none itself
abbrev pub named_struct : VarTy → Option ℕ
named_struct (Int t) = None
named_struct (Struct n) = Some n
named_struct (Array elem count) = elem_struct elem
named_struct (Pointer elem fixed) = elem_struct elem

-- the leaves of what has those of this struct, by those of each struct
abbrev pub named_leaves : List (List Leaf) → Option ℕ → List Leaf
named_leaves known None = whole ∷ []
named_leaves known (Some n) = get_or known n []

-- how many leaves an object has
abbrev pub type_count : List ℕ → VarTy → ℕ
type_count counts (Int t) = 1
type_count counts (Struct n) = get_or counts n 0
type_count counts (Array elem count) = elem_count counts elem
type_count counts (Pointer elem fixed) = elem_count counts elem

abbrev pub fields_count : List ℕ → List Field → ℕ
fields_count counts [] = 0
fields_count counts (f ∷ fs) = type_count counts f.ty + fields_count counts fs

-- how many leaves each struct has, behind the structs before
abbrev pub counts_after : List ℕ → List StructInfo → List ℕ
counts_after counts [] = counts
counts_after counts (s ∷ ss) = counts_after (counts ++ fields_count counts s.fields ∷ []) ss

-- how many leaves each struct has
abbrev pub counts_of : List StructInfo → List ℕ
counts_of structs = map length (leaves_after [] structs)

-- where the leaves of the field k of the struct n begin, by where those of the fields of each begin
abbrev pub start_in : List (List ℕ) → ℕ → ℕ → ℕ
start_in starts n k = get_or (get_or starts n []) k 0

-- a table of the numbers of leaves of structs, of where those of their fields begin, and of their integers
pub record IsLeafTable (structs : List StructInfo) (table : LeafTable) : Type 0 where
  pub counts : table.counts.items ≡ counts_of structs
  pub starts : table.starts.items ≡ map (λ s. field_starts (leaf_count structs) 0 s.fields) structs
  pub cells : table.cells.items ≡ sizes_of structs
