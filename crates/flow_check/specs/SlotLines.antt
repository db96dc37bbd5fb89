-- The line of a slot: the name of its variable with those of the fields that lead to it, and where the
-- variable is declared.
use Rattle.std.specs.Prelude.{ℕ, List, [], ◌∷◌, ◌++◌, Option, codes, option_and_then, slice_get}
use Rattle.std.specs.Option.{option_map_or}
use Rattle.front_end.specs.FaultLines.{place_text}
use Rattle.pt_base.specs.declared.span.Span.{Span}
use Rattle.sides.specs.declared.slots.SlotInfo.{SlotInfo}
use Rattle.sides.specs.LeafTables.{named_struct}
use Rattle.sides.specs.Slots.{slot_at}
use Rattle.typed_tree.specs.declared.types.Field.{Field}
use Rattle.typed_tree.specs.declared.types.StructInfo.{StructInfo}
use Rattle.typed_tree.specs.declared.types.VarTy.{VarTy}
use Rattle.typed_tree.specs.declared.variable.Var.{Var}
use Rattle.typed_tree.specs.TypedTree.{TypedTree}
use Rattle.flow_check.specs.Shown.{variable_of}

-- the field of this number: of a struct, of the struct that a pointer points to, of those in an array
abbrev pub field_of : List StructInfo → VarTy → ℕ → Option Field
field_of structs ty k = option_and_then (λ n. option_and_then (λ s. slice_get s.fields k) (slice_get structs n)) (named_struct ty)

-- the names of the fields of a path, each behind a dot
abbrev pub fields_text : List StructInfo → VarTy → List ℕ → List ℕ
fields_text structs ty [] = []
fields_text structs ty (k ∷ path) = option_map_or (λ f. codes "." ++ f.name ++ fields_text structs f.ty path) (field_of structs ty k) []

-- ` FROM..TO`, and the line's end
abbrev pub end_text : Span → List ℕ
end_text span = codes " " ++ place_text span ++ codes "\n"

-- `priv NAME FROM..TO`
abbrev pub variable_line : List StructInfo → List ℕ → Var → List ℕ
variable_line structs path x = codes "priv " ++ x.name ++ fields_text structs x.ty path ++ end_text x.span

abbrev pub info_line : TypedTree → SlotInfo → List ℕ
info_line t s = option_map_or (variable_line t.structs s.path) (variable_of t s.owner) []

abbrev pub slot_line : TypedTree → ℕ → List ℕ
slot_line t n = info_line t (slot_at t n)
