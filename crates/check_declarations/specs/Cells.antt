-- How many cells an object has: one for each integer or pointer that it holds.
use Rattle.std.specs.Prelude.{ℕ, ◌*◌, min, sum_by}
use Rattle.std.specs.Option.{option_map_or}
use Rattle.pt_tree.specs.declared.signature.Elem.{Elem}
use Rattle.pt_tree.specs.declared.signature.Elem.TheVariants as elem
use Rattle.type_rules.specs.declared.types.Type.{«Type»}
use Rattle.type_rules.specs.declared.types.Type.TheVariants as ty
use Rattle.check_declarations.specs.declared.structs.FieldEntry.{FieldEntry}
use Rattle.check_declarations.specs.declared.structs.StructEntry.{StructEntry}
use Rattle.check_declarations.specs.NameTables.{Named, value_at, values}

-- cells are counted up to the first number that is over every limit, 1,048,576 cells for all globals
-- being the highest
abbrev pub counted : ℕ → ℕ
counted n = min n 1048577

-- the most cells that an object or a field may have
abbrev pub object_limit : ℕ
object_limit = 65536

-- the cells of one element
abbrev pub cells_of_elem : Named StructEntry → Elem → ℕ
cells_of_elem structs (elem.Int t) = 1
cells_of_elem structs (elem.Struct n) = option_map_or (λ s. s.cells) (value_at structs n) 0

abbrev pub cells_of : Named StructEntry → «Type» → ℕ
cells_of structs ty.Bad = 0
cells_of structs ty.Void = 0
cells_of structs (ty.Int t) = 1
cells_of structs (ty.Struct n) = cells_of_elem structs (elem.Struct n)
cells_of structs (ty.Array e count) = counted (count * cells_of_elem structs e)
cells_of structs (ty.Pointer e fixed) = 1

-- the cells of all fields together
abbrev pub cells_in : Named StructEntry → Named FieldEntry → ℕ
cells_in structs fields = counted (sum_by (λ f. cells_of structs f.ty) (values fields))
