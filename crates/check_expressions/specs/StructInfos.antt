-- The structs, and the types of objects, as the typed tree has them.
use Rattle.std.specs.Prelude.{ℕ, List, map, unwrap_or}
use Rattle.pt_base.specs.declared.int_type.IntType.TheVariants as int
use Rattle.type_rules.specs.declared.types.Type.{«Type»}
use Rattle.typed_tree.specs.declared.types.VarTy.{VarTy}
use Rattle.typed_tree.specs.declared.types.VarTy.TheVariants as v
use Rattle.typed_tree.specs.declared.types.Field.{Field}
use Rattle.typed_tree.specs.declared.types.StructInfo.{StructInfo}
use Rattle.check_declarations.specs.declared.structs.FieldEntry.{FieldEntry}
use Rattle.check_declarations.specs.declared.structs.StructEntry.{StructEntry}
use Rattle.check_declarations.specs.Structs.{Structs}
use Rattle.check_expressions.specs.Operands.{var_type}

-- the type of an object; that of a faulty one is any
abbrev pub object_type_of : «Type» → VarTy
object_type_of t = unwrap_or (var_type t) (v.Int int.Int)

abbrev pub field_info : List ℕ × FieldEntry → Field
field_info f = record { name = f.0; ty = object_type_of f.1.ty; marked = f.1.marked }

abbrev pub struct_info : List ℕ × StructEntry → StructInfo
struct_info s = record { name = s.0; fields = map field_info s.1.fields }

abbrev pub infos_of : Structs → List StructInfo
infos_of structs = map struct_info structs
