-- Which tables of structs are sound.
use Rattle.std.specs.Prelude.{◌≡◌, ◌≤◌, ⊤, [], ◌∷◌, ◌++◌, Bool, ◌&&◌, IsTrue, length, nat_le}
use Rattle.std.specs.List.{list_all}
use Rattle.check_declarations.specs.declared.structs.FieldEntry.{FieldEntry}
use Rattle.check_declarations.specs.declared.structs.StructEntry.{StructEntry}
use Rattle.check_declarations.specs.Cells.{cells_of, cells_in, object_limit}
use Rattle.check_declarations.specs.NameTables.{values}
use Rattle.check_declarations.specs.Structs.{Structs}
use Rattle.type_law.specs.DeclarationsTypes.{is_plain}

-- a field of a struct behind these structs: it has a good type, and not too many cells
abbrev pub field_sound : Structs → FieldEntry → Bool
field_sound before f = is_plain (length before) f.ty && nat_le (cells_of before f.ty) object_limit

-- a struct behind these: it has a field, its fields are sound, and its cells are counted
pub record SoundStruct (before : Structs) (s : StructEntry) : Type 0 where
  pub some : 1 ≤ length s.fields
  pub fields : IsTrue (list_all (field_sound before) (values s.fields))
  pub cells : s.cells ≡ cells_in before s.fields

-- each struct of the second list behind all before it
abbrev pub SoundFrom : Structs → Structs → Type 0
SoundFrom before [] = ⊤
SoundFrom before (s ∷ rest) = SoundStruct before s.1 × SoundFrom (before ++ s ∷ []) rest

abbrev pub SoundStructs : Structs → Type 0
SoundStructs structs = SoundFrom [] structs
