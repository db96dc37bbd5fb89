-- Why a secret begins in a slot.
use Rattle.std.specs.Prelude.{ℕ, List, [], ◌++◌, Option, None, Some, Bool, true, false, codes, slice_index_or}
use Rattle.std.specs.Option.{option_map_or}
use Rattle.pt_base.specs.declared.ids.FnId.{FnId}
use Rattle.pt_base.specs.declared.slot.Slot.{Slot}
use Rattle.sides.specs.declared.slots.Owner.{Owner}
use Rattle.sides.specs.declared.slots.Owner.TheVariants.{Variable, Global, Result}
use Rattle.sides.specs.declared.slots.SlotInfo.{SlotInfo}
use Rattle.sides.specs.Slots.{no_slot}
use Rattle.typed_tree.specs.declared.variable.Var.{Var}
use Rattle.typed_tree.specs.Lookup.{signature_of}
use Rattle.typed_tree.specs.TypedTree.{TypedTree}
use Rattle.flow_check.specs.Shown.{variable_of}
use Rattle.flow_check.specs.SlotLines.{fields_text}

-- of an object that is marked, or of a part of it that lies under a marked field; else it is what comes back
-- through an argument
abbrev pub object_cause : Bool → Bool → List ℕ
object_cause true field = codes " is marked priv"
object_cause false true = codes " lies under a field marked priv"
object_cause false false = codes " comes back from a privileged function"

abbrev pub variable_cause : TypedTree → SlotInfo → Var → List ℕ
variable_cause t s x = codes ": `" ++ x.name ++ fields_text t.structs x.ty s.path ++ codes "`" ++ object_cause x.marked s.marked

-- of what the function of this name returns
abbrev pub returned_text : List ℕ → List ℕ
returned_text name = codes ": what `" ++ name ++ codes "` returns is privileged"

abbrev pub result_cause : TypedTree → FnId → List ℕ
result_cause t f = option_map_or (λ s. returned_text s.name) (signature_of t f) []

abbrev pub object_text : TypedTree → SlotInfo → List ℕ
object_text t s = option_map_or (variable_cause t s) (variable_of t s.owner) []

abbrev pub owner_text : TypedTree → SlotInfo → Owner → List ℕ
owner_text t s (Variable f v) = object_text t s
owner_text t s (Global g) = object_text t s
owner_text t s (Result f) = result_cause t f

abbrev pub cause_of : TypedTree → SlotInfo → List ℕ
cause_of t s = owner_text t s s.owner

-- of the seed, if there is one
abbrev pub origin_text : TypedTree → List SlotInfo → Option Slot → List ℕ
origin_text t slots None = []
origin_text t slots (Some slot) = cause_of t (slice_index_or slots slot.0 no_slot)
