-- The lines that tell which variables of an accepted program hold secrets.
use Rattle.std.specs.Prelude.{ℕ, List, [], ◌++◌, codes, slice_index_or}
use Rattle.std.specs.List.{flat_map}
use Rattle.std.specs.Option.{option_map_or}
use Rattle.pt_base.specs.declared.ids.FnId.{FnId}
use Rattle.sides.specs.declared.slots.Owner.{Owner}
use Rattle.sides.specs.declared.slots.Owner.TheVariants.{Variable, Global, Result}
use Rattle.sides.specs.declared.slots.SlotInfo.{SlotInfo}
use Rattle.sides.specs.Slots.{no_slot, slot_at}
use Rattle.typed_tree.specs.declared.types.StructInfo.{StructInfo}
use Rattle.typed_tree.specs.declared.variable.Var.{Var}
use Rattle.typed_tree.specs.Lookup.{signature_of}
use Rattle.typed_tree.specs.TypedTree.{TypedTree}
use Rattle.flow_check.specs.declared.shown.ShownSlot.{ShownSlot}
use Rattle.flow_check.specs.Shown.{variable_of}
use Rattle.flow_check.specs.SlotLines.{fields_text}
use Rattle.source_places.specs.Heads.{head}

-- `in FUNCTION: `
abbrev pub function_text : TypedTree → FnId → List ℕ
function_text t f = option_map_or (λ s. codes "in " ++ s.name ++ codes ": ") (signature_of t f) []

-- of a variable, nothing of a global
abbrev pub home_text : TypedTree → Owner → List ℕ
home_text t (Variable f v) = function_text t f
home_text t (Global g) = []
home_text t (Result f) = []

abbrev pub named_text : List StructInfo → List ℕ → Var → List ℕ
named_text structs path x = x.name ++ fields_text structs x.ty path ++ codes " holds a secret\n"

-- a leaf of a variable: `NAME:LINE:COLUMN: in FUNCTION: VARIABLE.FIELD holds a secret`
abbrev pub variable_text : List ℕ → List ℕ → TypedTree → SlotInfo → Var → List ℕ
variable_text name text t s x = head name text x.span.from ++ home_text t s.owner ++ named_text t.structs s.path x

abbrev pub info_text : List ℕ → List ℕ → TypedTree → SlotInfo → List ℕ
info_text name text t s = option_map_or (variable_text name text t s) (variable_of t s.owner) []

-- the line of the slot of this number
abbrev pub holding : List ℕ → List ℕ → TypedTree → ℕ → List ℕ
holding name text t n = info_text name text t (slot_at t n)

-- the lines of these, by the list of all slots, as code writes them; no public clause speaks of it
abbrev pub kept_texts : List ℕ → List ℕ → TypedTree → List SlotInfo → List ShownSlot → List ℕ
kept_texts name text t slots = flat_map (λ s. info_text name text t (slice_index_or slots s.slot no_slot))
