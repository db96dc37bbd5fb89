-- Which types are good among so many structs: each struct that they name is one of these, and an array
-- has an element.
use Rattle.std.specs.Prelude.{ℕ, Bool, true, false, ◌&&◌, Some, nat_lt, nat_le}
use Rattle.type_rules.specs.declared.types.Type.{«Type»}
use Rattle.type_rules.specs.declared.types.Type.TheVariants.{Bad, Void, Int, Struct, Array, Pointer}
use Rattle.typed_tree.specs.WellFormedExpression.{is_elem}
use Rattle.check_declarations.specs.declared.objects.ObjectKind.{ObjectKind}
use Rattle.check_declarations.specs.declared.objects.ObjectKind.TheVariants as kind

-- the type of an expression
abbrev pub is_good : ℕ → «Type» → Bool
is_good structs Bad = false
is_good structs Void = true
is_good structs (Int t) = true
is_good structs (Struct n) = nat_lt n structs
is_good structs (Array e count) = is_elem structs (Some e) && nat_le 1 count
is_good structs (Pointer e fixed) = is_elem structs (Some e)

-- what specifiers say
abbrev pub is_base : ℕ → «Type» → Bool
is_base structs Bad = false
is_base structs Void = true
is_base structs (Int t) = true
is_base structs (Struct n) = nat_lt n structs
is_base structs (Array e count) = false
is_base structs (Pointer e fixed) = false

-- the type of a variable
abbrev pub is_variable : ℕ → «Type» → Bool
is_variable structs Bad = false
is_variable structs Void = false
is_variable structs (Int t) = true
is_variable structs (Struct n) = nat_lt n structs
is_variable structs (Array e count) = is_elem structs (Some e) && nat_le 1 count
is_variable structs (Pointer e fixed) = is_elem structs (Some e)

-- the type of a global or a field
abbrev pub is_plain : ℕ → «Type» → Bool
is_plain structs Bad = false
is_plain structs Void = false
is_plain structs (Int t) = true
is_plain structs (Struct n) = nat_lt n structs
is_plain structs (Array e count) = is_elem structs (Some e) && nat_le 1 count
is_plain structs (Pointer e fixed) = false

-- the type of a parameter
abbrev pub is_parameter : ℕ → «Type» → Bool
is_parameter structs Bad = false
is_parameter structs Void = false
is_parameter structs (Int t) = true
is_parameter structs (Struct n) = false
is_parameter structs (Array e count) = false
is_parameter structs (Pointer e fixed) = is_elem structs (Some e)

-- the type of a result
abbrev pub is_result : «Type» → Bool
is_result Bad = false
is_result Void = true
is_result (Int t) = true
is_result (Struct n) = false
is_result (Array e count) = false
is_result (Pointer e fixed) = false

-- the type of an object of this kind
abbrev pub is_object : ObjectKind → ℕ → «Type» → Bool
is_object kind.Global = is_plain
is_object kind.Local = is_variable
is_object kind.Field = is_plain
is_object kind.Parameter = is_parameter
