-- What a brace list fills (C99 6.7.8p17 to p20): the integers of an object in the order of their
-- declaration, each by its type, or the pointer that the object is.
use Rattle.std.specs.Prelude.{ℕ, zero, suc, List, [], ◌∷◌, flat_map, length, nat_lt, if◌then◌else◌}
use Rattle.std.specs.Option.{option_map_or}
use Rattle.pt_tree.specs.declared.signature.Elem.{Elem}
use Rattle.pt_tree.specs.declared.signature.Elem.TheVariants as elem
use Rattle.type_rules.specs.declared.types.Type.{«Type»}
use Rattle.type_rules.specs.declared.types.Type.TheVariants.{Bad, Void, Int, Struct, Array, Pointer}
use Rattle.typed_tree.specs.Cells.{repeated}
use Rattle.check_declarations.specs.declared.structs.FieldEntry.{FieldEntry}
use Rattle.check_declarations.specs.Cells.{cells_of}
use Rattle.check_declarations.specs.NameTables.{value_at, values}
use Rattle.check_declarations.specs.Structs.{Structs}

-- the leaves of an element, by those of each struct
abbrev pub element_leaves : (ℕ → List «Type») → Elem → List «Type»
element_leaves within (elem.Int t) = Int t ∷ []
element_leaves within (elem.Struct n) = within n

-- the leaves of an object, by those of each struct
abbrev pub object_leaves : (ℕ → List «Type») → «Type» → List «Type»
object_leaves within Bad = []
object_leaves within Void = []
object_leaves within (Int t) = Int t ∷ []
object_leaves within (Struct n) = within n
object_leaves within (Array e count) = repeated count (element_leaves within e)
object_leaves within (Pointer e fixed) = Pointer e fixed ∷ []

-- the fields of the struct with this number
abbrev pub fields_in : Structs → ℕ → List FieldEntry
fields_in structs n = option_map_or (λ s. values s.fields) (value_at structs n) []

-- the leaves of a field, which has some where it has cells
abbrev pub field_leaves : (ℕ → List «Type») → Structs → FieldEntry → List «Type»
field_leaves within structs f = if nat_lt 0 (cells_of structs f.ty) then object_leaves within f.ty else []

-- the leaves of a struct in which structs are nested at most so deep
abbrev pub struct_leaves : ℕ → Structs → ℕ → List «Type»
struct_leaves zero structs n = []
struct_leaves (suc depth) structs n = flat_map (λ f. field_leaves (struct_leaves depth structs) structs f) (fields_in structs n)

-- structs are nested at most as deep as there are structs
abbrev pub leaves_of : Structs → «Type» → List «Type»
leaves_of structs ty = object_leaves (struct_leaves (length structs) structs) ty
