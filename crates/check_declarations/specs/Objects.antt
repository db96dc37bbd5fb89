-- The types that declarators give objects and functions' results, and what this profile leaves out
-- (C99 6.7.5).
use Rattle.std.specs.Prelude.{ℕ, pos, int_lt, List, ◌++◌, Bool, true, false, not, ◌&&◌, ◌||◌, nat_lt, unsigned_abs, if◌then◌else◌}
use Rattle.pt_base.specs.declared.span.Span.{Span}
use Rattle.pt_tree.specs.declared.signature.Elem.TheVariants as elem
use Rattle.pt_tree.specs.declared.specifier.Suffix.{Suffix}
use Rattle.pt_tree.specs.declared.specifier.Suffix.TheVariants.{Plain, Open, Sized}
use Rattle.type_rules.specs.declared.types.Type.{«Type»}
use Rattle.type_rules.specs.declared.types.Type.TheVariants as ty
use Rattle.check_declarations.specs.declared.fault.TypeFault.{TypeFault}
use Rattle.check_declarations.specs.declared.fault.FaultKind.TheVariants.{OutOfProfile, TooLarge}
use Rattle.check_declarations.specs.declared.objects.ObjectKind.{ObjectKind}
use Rattle.check_declarations.specs.declared.objects.ObjectKind.TheVariants.{Global, Local, Field, Parameter}
use Rattle.check_declarations.specs.declared.specifiers.Specified.{Specified}
use Rattle.check_declarations.specs.Faults.{fault_if}
use Rattle.check_declarations.specs.Cells.{counted, cells_of, object_limit}
use Rattle.check_declarations.specs.Structs.{Structs}

abbrev pub is_void : «Type» → Bool
is_void ty.Void = true
is_void t = false

abbrev pub is_struct : «Type» → Bool
is_struct (ty.Struct n) = true
is_struct t = false

abbrev pub is_pointer : «Type» → Bool
is_pointer (ty.Pointer e fixed) = true
is_pointer t = false

abbrev pub is_global : ObjectKind → Bool
is_global Global = true
is_global k = false

abbrev pub is_parameter : ObjectKind → Bool
is_parameter Parameter = true
is_parameter k = false

-- pointers are locals and parameters only
abbrev pub may_be_pointer : ObjectKind → Bool
may_be_pointer Global = false
may_be_pointer Local = true
may_be_pointer Field = false
may_be_pointer Parameter = true

-- the form of an array, with its size or without
abbrev pub is_array_form : Suffix → Bool
is_array_form Plain = false
is_array_form Open = true
is_array_form (Sized c) = true

-- `[]` stands in parameters only, and a size is at least 1
abbrev pub is_wrong_size : ObjectKind → Suffix → Bool
is_wrong_size kind Plain = false
is_wrong_size kind Open = not (is_parameter kind)
is_wrong_size kind (Sized c) = int_lt c.value (pos 1)

-- an object that is void or points to void, and a global that is extern
abbrev pub is_wrong_base : ObjectKind → Specified → Bool
is_wrong_base kind given = is_void given.base || (is_global kind && given.external)

-- a pointer where none may be, an array of pointers, a wrong size, and a struct as a parameter
abbrev pub is_wrong_form : ObjectKind → «Type» → Bool → Suffix → Bool
is_wrong_form kind base pointer suffix =
    (pointer && (not (may_be_pointer kind) || is_array_form suffix))
    || (is_wrong_size kind suffix
    || (is_parameter kind && (is_struct base && not (pointer || is_array_form suffix))))

abbrev pub object_faults : ObjectKind → Specified → Bool → Suffix → Span → List TypeFault
object_faults kind given pointer suffix at =
    fault_if (is_wrong_base kind given) OutOfProfile given.first
    ++ fault_if (is_wrong_form kind given.base pointer suffix) OutOfProfile at

-- a pointer to this type, and an array of so many of it
abbrev pub pointer_to : «Type» → Bool → «Type»
pointer_to (ty.Int t) fixed = ty.Pointer (elem.Int t) fixed
pointer_to (ty.Struct n) fixed = ty.Pointer (elem.Struct n) fixed
pointer_to t fixed = ty.Bad

abbrev pub array_of : «Type» → ℕ → «Type»
array_of (ty.Int t) count = ty.Array (elem.Int t) count
array_of (ty.Struct n) count = ty.Array (elem.Struct n) count
array_of t count = ty.Bad

-- what the base is made to by `*` and by a suffix; a parameter of array form is a pointer
-- (C99 6.7.5.3p7), and `fixed` then says that its pointee is const
abbrev pub shaped : Bool → «Type» → Bool → Bool → Suffix → «Type»
shaped parameter base fixed true suffix = pointer_to base fixed
shaped parameter base fixed false Plain = base
shaped parameter base fixed false Open = pointer_to base fixed
shaped parameter base fixed false (Sized c) = if parameter then pointer_to base fixed else array_of base (counted (unsigned_abs c.value))

-- the type of an object; Bad where its declaration has one of the faults above
abbrev pub object_type : ObjectKind → Specified → Bool → Suffix → «Type»
object_type kind given pointer suffix =
    if is_wrong_base kind given || is_wrong_form kind given.base pointer suffix then ty.Bad
    else shaped (is_parameter kind) given.base given.fixed pointer suffix

-- `const` makes the object const, but where it is a pointer, its pointee
abbrev pub is_fixed : ObjectKind → Specified → Bool → Suffix → Bool
is_fixed kind given pointer suffix = given.fixed && not (is_pointer (object_type kind given pointer suffix))

-- an object or a field of this type is too large
abbrev pub size_faults : Structs → «Type» → Span → List TypeFault
size_faults structs t at = fault_if (nat_lt object_limit (cells_of structs t)) TooLarge at

-- ---- results

-- a result that is a pointer or a struct, and a function with the form of an array
abbrev pub is_wrong_result : «Type» → Bool → Suffix → Bool
is_wrong_result base pointer suffix = pointer || (is_struct base || is_array_form suffix)

abbrev pub result_faults : Specified → Bool → Suffix → Span → List TypeFault
result_faults given pointer suffix at = fault_if (is_wrong_result given.base pointer suffix) OutOfProfile at

abbrev pub result_type : Specified → Bool → Suffix → «Type»
result_type given pointer suffix = if is_wrong_result given.base pointer suffix then ty.Bad else given.base

-- ---- marks

-- a pointer, by its `*` or the form of an array, whose pointee isn't const
abbrev pub is_mutable_pointer : Specified → Bool → Suffix → Bool
is_mutable_pointer given pointer suffix = (pointer || is_array_form suffix) && not given.fixed
