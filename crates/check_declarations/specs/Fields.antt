-- The declarators of a field declaration: each adds a field to its struct (C99 6.7.2.1).
use Rattle.std.specs.Prelude.{List, [], ◌∷◌, ◌++◌, not}
use Rattle.pt_tree.specs.declared.specifier.Declarator.{Declarator}
use Rattle.check_declarations.specs.declared.fault.TypeFault.{TypeFault}
use Rattle.check_declarations.specs.declared.fault.FaultKind.TheVariants.{Redeclared}
use Rattle.check_declarations.specs.declared.objects.ObjectKind.TheVariants as kind
use Rattle.check_declarations.specs.declared.specifiers.Specified.{Specified}
use Rattle.check_declarations.specs.declared.structs.FieldEntry.{FieldEntry}
use Rattle.check_declarations.specs.NameTables.{is_new, with_name}
use Rattle.check_declarations.specs.Faults.{fault_if}
use Rattle.check_declarations.specs.Marks.{marks_of}
use Rattle.check_declarations.specs.Objects.{object_faults, object_type, is_fixed, size_faults}
use Rattle.check_declarations.specs.Structs.{Fields, Structs}

-- the fields of a struct so far, and the faults of these declarators
pub record Declared : Type 0 where
  pub fields : Fields
  pub faults : List TypeFault

abbrev pub field_of : Specified → Declarator → FieldEntry
field_of given d = record {
  ty = object_type kind.Field given d.pointer d.suffix;
  fixed = is_fixed kind.Field given d.pointer d.suffix;
  marked = (marks_of given.attributes).marked;
}

-- the faults of one declarator: of its type, its size, and a name that the struct has already
abbrev pub field_faults : Structs → Specified → Fields → Declarator → List TypeFault
field_faults structs given fields d =
    object_faults kind.Field given d.pointer d.suffix d.name.span
    ++ size_faults structs (field_of given d).ty d.name.span
    ++ fault_if (not (is_new fields d.name.bytes)) Redeclared d.name.span

-- in order; of two fields of one name the first stays
abbrev pub declared : Structs → Specified → Fields → List Declarator → Declared
declared structs given fields [] = record { fields = fields; faults = [] }
declared structs given fields (d ∷ ds) =
    let rest = declared structs given (with_name fields d.name.bytes (field_of given d)) ds in
    record { fields = rest.fields; faults = field_faults structs given fields d ++ rest.faults }
