-- The structs of a program: their tags and fields in order of declaration (C99 6.7.2.1).
use Rattle.std.specs.Prelude.{ℕ, List, Bool, false, ◌||◌, Option, option_map, option_and_then}
use Rattle.std.specs.Option.{option_map_or}
use Rattle.std.specs.List.{list_any}
use Rattle.pt_tree.specs.declared.signature.Elem.TheVariants as elem
use Rattle.type_rules.specs.declared.types.Type.{«Type»}
use Rattle.type_rules.specs.declared.types.Type.TheVariants as ty
use Rattle.check_declarations.specs.declared.structs.FieldEntry.{FieldEntry}
use Rattle.check_declarations.specs.declared.structs.FoundField.{FoundField}
use Rattle.check_declarations.specs.declared.structs.StructEntry.{StructEntry}
use Rattle.check_declarations.specs.NameTables.{Named, number_of, value_at, values, with_name}
use Rattle.check_declarations.specs.Cells.{cells_in}

abbrev pub Fields : Type 0
Fields = Named FieldEntry

abbrev pub Structs : Type 0
Structs = Named StructEntry

-- the struct of this tag; Bad where none is declared
abbrev pub struct_type : Structs → List ℕ → «Type»
struct_type structs tag = option_map_or ty.Struct (number_of structs tag) ty.Bad

-- a part of the struct with this number is const
abbrev pub has_const_part : Structs → ℕ → Bool
has_const_part structs n = option_map_or (λ s. s.has_const) (value_at structs n) false

-- a part of an object of this type is const, whatever the object is
abbrev pub has_const : Structs → «Type» → Bool
has_const structs (ty.Struct n) = has_const_part structs n
has_const structs (ty.Array (elem.Struct n) count) = has_const_part structs n
has_const structs t = false

-- a part of one of the fields is const
abbrev pub has_const_field : Structs → Fields → Bool
has_const_field structs fields = list_any (λ f. f.fixed || has_const structs f.ty) (values fields)

-- the struct of these fields
abbrev pub struct_of : Structs → Fields → StructEntry
struct_of structs fields = record { fields = fields; cells = cells_in structs fields; has_const = has_const_field structs fields }

-- a struct of this tag and these fields comes last, where the tag is new
abbrev pub with_struct : Structs → List ℕ → Fields → Structs
with_struct structs tag fields = with_name structs tag (struct_of structs fields)

-- a field of a struct, with its number
abbrev pub found_in : Fields → List ℕ → Option FoundField
found_in fields name = option_and_then (λ k. option_map (λ entry. record { number = k; entry = entry }) (value_at fields k)) (number_of fields name)

-- the fields of the struct with this number
abbrev pub fields_of : Structs → ℕ → Option Fields
fields_of structs n = option_map (λ s. s.fields) (value_at structs n)

-- the field of this name of the struct with this number
abbrev pub field_named : Structs → ℕ → List ℕ → Option FoundField
field_named structs n name = option_and_then (λ fields. found_in fields name) (fields_of structs n)
