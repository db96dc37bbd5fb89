-- How many cells objects have, by a table of the structs' sizes: one cell for each integer leaf. A
-- pointer has none here; the block of a pointer variable is one cell.
use Rattle.std.specs.Prelude.{ℕ, ◌+◌, ◌*◌, List, [], ◌∷◌, ◌++◌, get_or, take}
use Rattle.pt_tree.specs.declared.signature.Elem.{Elem}
use Rattle.pt_tree.specs.declared.signature.Elem.TheVariants as e
use Rattle.typed_tree.specs.declared.types.VarTy.{VarTy}
use Rattle.typed_tree.specs.declared.types.VarTy.TheVariants.{Int, Struct, Array, Pointer}
use Rattle.typed_tree.specs.declared.types.Field.{Field}
use Rattle.typed_tree.specs.declared.types.StructInfo.{StructInfo}

-- how many cells an element has, where structs have so many
abbrev pub elem_cells : List ℕ → Elem → ℕ
elem_cells sizes (e.Int t) = 1
elem_cells sizes (e.Struct n) = get_or sizes n 0

-- how many cells an object has
abbrev pub cells_by : List ℕ → VarTy → ℕ
cells_by sizes (Int t) = 1
cells_by sizes (Struct n) = get_or sizes n 0
cells_by sizes (Array elem count) = count * elem_cells sizes elem
cells_by sizes (Pointer elem fixed) = 0

abbrev pub fields_cells : List ℕ → List Field → ℕ
fields_cells sizes [] = 0
fields_cells sizes (f ∷ fs) = cells_by sizes f.ty + fields_cells sizes fs

-- how many cells each struct has; a struct's fields name earlier structs alone
abbrev pub sizes_after : List ℕ → List StructInfo → List ℕ
sizes_after sizes [] = sizes
sizes_after sizes (s ∷ ss) = sizes_after (sizes ++ fields_cells sizes s.fields ∷ []) ss

abbrev pub sizes_of : List StructInfo → List ℕ
sizes_of structs = sizes_after [] structs

abbrev pub fields_of : List StructInfo → ℕ → List Field
fields_of structs n = (get_or structs n (record { name = []; fields = [] })).fields

-- at which cell of a struct a field begins
abbrev pub offset_of : List StructInfo → ℕ → ℕ → ℕ
offset_of structs n k = fields_cells (sizes_of structs) (take k (fields_of structs n))
