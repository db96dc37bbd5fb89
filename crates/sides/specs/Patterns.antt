-- The slots of one object of a struct, after which those of others are made.
use Rattle.std.specs.Prelude.{◌≡◌, ◌<◌, ℕ, List, [], Option, None, Some, get_or, length, map}
use Rattle.typed_tree.specs.declared.types.StructInfo.{StructInfo}
use Rattle.typed_tree.specs.declared.types.VarTy.TheVariants.{Struct}
use Rattle.sides.specs.declared.slots.Owner.{Owner}
use Rattle.sides.specs.declared.slots.Owner.TheVariants.{Result}
use Rattle.sides.specs.declared.slots.SlotInfo.{SlotInfo}
use Rattle.sides.specs.Leaves.{leaves_of}
use Rattle.sides.specs.Slots.{slot_of}

-- the same slot of another owner
abbrev pub with_owner : Owner → SlotInfo → SlotInfo
with_owner owner s = record { owner = owner; path = s.path; marked = s.marked }

-- nothing, or the slots of an object of the struct n; of what owner doesn't matter
abbrev pub IsPattern : List StructInfo → ℕ → List SlotInfo → Type 0
IsPattern structs n slots = 0 < length slots → slots ≡ map (slot_of (Result (record { 0 = 0 }))) (leaves_of structs (Struct n))

abbrev pub ArePatterns : List StructInfo → List (List SlotInfo) → Type 0
ArePatterns structs patterns = (n : ℕ) → IsPattern structs n (get_or patterns n [])

-- that of what has the leaves of this struct
abbrev pub pattern_of : List (List SlotInfo) → Option ℕ → List SlotInfo
pattern_of patterns None = []
pattern_of patterns (Some n) = get_or patterns n []
