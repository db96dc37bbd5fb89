-- The names in a half's text: each is an identifier and no keyword, whatever the program's names are.
use Rattle.std.specs.Prelude.{ℕ, List, [], ◌∷◌, ◌++◌, Option, None, Some, Bool, false, ◌&&◌, ◌||◌, if◌then◌else◌, codes, nat_eq, nat_le, slice_get, option_map}
use Rattle.std.specs.Fmt.{decimal}
use Rattle.std.specs.List.{list_all}
use Rattle.std.specs.Map.{lookup}
use Rattle.pt_tree.specs.declared.signature.Signature.{Signature}
use Rattle.pt_tree.specs.declared.word.Word.{Word}
use Rattle.typed_tree.specs.declared.types.Field.{Field}
use Rattle.typed_tree.specs.declared.types.StructInfo.{StructInfo}
use Rattle.typed_tree.specs.declared.types.VarTy.{VarTy}
use Rattle.typed_tree.specs.declared.types.VarTy.TheVariants.{Int, Struct, Array, Pointer}
use Rattle.typed_tree.specs.Sizes.{fields_of}
use Rattle.typed_tree.specs.WellFormedExpression.{is_main}
pub use Rattle.pt_base.specs.Spans.{nowhere}

abbrev pub word : List ℕ → Word
word bytes = record { span = nowhere; bytes = bytes }

abbrev pub is_between : ℕ → ℕ → ℕ → Bool
is_between low high b = nat_le low b && nat_le b high

-- a letter or `_`
abbrev pub is_name_start : ℕ → Bool
is_name_start b = is_between 65 90 b || (is_between 97 122 b || nat_eq b 95)

-- a letter, a digit or `_`
abbrev pub is_name_byte : ℕ → Bool
is_name_byte b = is_between 48 57 b || is_name_start b

-- letters, digits and `_`, and first of them no digit (C99 6.4.2.1)
abbrev pub is_identifier : List ℕ → Bool
is_identifier [] = false
is_identifier (b ∷ bs) = is_name_start b && list_all is_name_byte bs

-- a prefix and the name, or the number, where there is no name or it is no identifier
abbrev pub named : List ℕ → ℕ → Option (List ℕ) → List ℕ
named prefix n None = prefix ++ decimal n
named prefix n (Some name) = prefix ++ (if is_identifier name then name else decimal n)

abbrev pub local_name : ℕ → List ℕ
local_name v = codes "v_" ++ decimal v

abbrev pub global_name : ℕ → List ℕ
global_name g = codes "g_" ++ decimal g

-- a function by its number and what it is called with, if anything is known of that
abbrev pub function_by : ℕ → Option Signature → List ℕ
function_by f None = named (codes "f_") f None
function_by f (Some s) = if is_main s then codes "main" else named (codes "f_") f (Some s.name)

abbrev pub function_name : List (ℕ × Signature) → ℕ → List ℕ
function_name signatures f = function_by f (lookup (nat_eq f) signatures)

abbrev pub struct_name : List StructInfo → ℕ → List ℕ
struct_name structs n = named (codes "s_") n (option_map (λ s. s.name) (slice_get structs n))

abbrev pub field_by : List Field → ℕ → List ℕ
field_by fields k = named (codes "m_") k (option_map (λ f. f.name) (slice_get fields k))

-- a field of an object of this type
abbrev pub field_name : List StructInfo → VarTy → ℕ → List ℕ
field_name structs (Struct n) k = field_by (fields_of structs n) k
field_name structs (Int t) k = field_by [] k
field_name structs (Array elem count) k = field_by [] k
field_name structs (Pointer elem fixed) k = field_by [] k
