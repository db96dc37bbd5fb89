-- Sets of numbers, as code keeps them: a truth for each number.
use Rattle.std.specs.Prelude.{ℕ, suc, List, [], ◌∷◌, Bool, true, false, if◌then◌else◌, map, slice_set}
use Rattle.pt_base.specs.declared.ids.FnId.{FnId}
use Rattle.pt_base.specs.declared.ids.GlobalId.{GlobalId}
use Rattle.pt_base.specs.declared.slot.Slot.{Slot}
pub use Rattle.pt_base.specs.Ids.{function_id, global_id}
pub use Rattle.std.specs.Option.{option_to_list as items_of}

-- the numbers of what is true, of which the first has the number k
abbrev pub places_true : ℕ → List Bool → List ℕ
places_true k [] = []
places_true k (b ∷ bs) = if b then k ∷ places_true (suc k) bs else places_true (suc k) bs

-- after these numbers were added; one past the end isn't
abbrev pub set_all : List Bool → List ℕ → List Bool
set_all table [] = table
set_all table (k ∷ ks) = set_all (slice_set table k true) ks

abbrev pub slot_number : ℕ → Slot
slot_number k = record { 0 = k }

abbrev pub function_ids : List ℕ → List FnId
function_ids ks = map function_id ks

abbrev pub global_ids : List ℕ → List GlobalId
global_ids ks = map global_id ks

abbrev pub slot_numbers : List ℕ → List Slot
slot_numbers ks = map slot_number ks

-- the item, where the truth holds
abbrev pub item_if : {X : Type 0} → Bool → X → List X
item_if true x = x ∷ []
item_if false x = []
