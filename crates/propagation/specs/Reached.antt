-- What is known of slots that were reached.
use Rattle.std.specs.Prelude.{◌≡◌, ◌<◌, ◌≤◌, ◌+◌, ℕ, List, [], ◌∷◌, ◌++◌, length, slice_index_or, slice_set, Option, Some, None, Contains}
use Rattle.pt_base.specs.declared.slot.Slot.{Slot}
use Rattle.pt_base.specs.declared.slot.Edge.{Edge}
use Rattle.propagation.specs.declared.reached.Found.{Found}
use Rattle.propagation.specs.declared.reached.Step.{Step}
use Rattle.propagation.specs.Paths.{from_of, to_of}

abbrev pub no_slot : Found
no_slot = record { slot = 0; by = None }

abbrev pub slot_of : Found → Slot
slot_of f = record { 0 = f.slot }

abbrev pub slot_at : List Found → ℕ → Slot
slot_at order p = slot_of (slice_index_or order p no_slot)

abbrev pub by_at : List Found → ℕ → Option Step
by_at order p = (slice_index_or order p no_slot).by

abbrev pub place_of : List (Option ℕ) → Slot → Option ℕ
place_of places s = slice_index_or places s.0 None

abbrev pub HasPlace : List (Option ℕ) → Slot → Type 0
HasPlace places s = (p : ℕ) × (place_of places s ≡ Some p)

-- a step from a slot that was reached before
abbrev pub IsParent : ℕ → Option Step → Type 0
IsParent count by = (step : Step) → by ≡ Some step → step.parent < count

-- places are those of reached slots, and a step leads from an earlier one
pub record AreEarlier (places : List (Option ℕ)) (order : List Found) : Type 0 where
  pub within : (s : Slot) (p : ℕ) → place_of places s ≡ Some p → p < length order
  pub parents : (p : ℕ) → p < length order → IsParent p (by_at order p)

-- after a mark
abbrev pub set_if_none : Option ℕ → List (Option ℕ) → Slot → ℕ → List (Option ℕ)
set_if_none None places s p = slice_set places s.0 (Some p)
set_if_none (Some q) places s p = places

abbrev pub marked_places : List (Option ℕ) → Slot → ℕ → List (Option ℕ)
marked_places places s p = set_if_none (place_of places s) places s p

abbrev pub push_if_none : Option ℕ → List Found → Slot → Option Step → List Found
push_if_none None order s by = order ++ record { slot = s.0; by = by } ∷ []
push_if_none (Some q) order s by = order

abbrev pub marked_order : List (Option ℕ) → List Found → Slot → Option Step → List Found
marked_order places order s by = push_if_none (place_of places s) order s by

-- how many slots have no place
abbrev pub one_if_none : Option ℕ → ℕ
one_if_none None = 1
one_if_none (Some p) = 0

abbrev pub empty : List (Option ℕ) → ℕ
empty [] = 0
empty (o ∷ places) = one_if_none o + empty places

-- a reached slot is a seed, or an edge leads to it from the parent
abbrev pub Comes : List Slot → List Edge → List Found → Slot → Option Step → Type 0
Comes seeds edges order s None = Contains seeds s
Comes seeds edges order s (Some step) = (step.edge < length edges) × (from_of edges step.edge ≡ slot_at order step.parent) × (to_of edges step.edge ≡ s)

-- places and order agree, and each reached slot is a seed or comes from an earlier one
pub record AreSound (seeds : List Slot) (edges : List Edge) (slots : ℕ) (places : List (Option ℕ)) (order : List Found) : Type 0 where
  pub size : length places ≡ slots
  pub room : empty places + length order ≡ slots
  pub earlier : AreEarlier places order
  pub placed : (s : Slot) (p : ℕ) → place_of places s ≡ Some p → slot_at order p ≡ s
  pub listed : (p : ℕ) → p < length order → place_of places (slot_at order p) ≡ Some p
  pub comes : (p : ℕ) → p < length order → Comes seeds edges order (slot_at order p) (by_at order p)

-- what was reached stays so, at its place
pub record Keeps (places : List (Option ℕ)) (order : List Found) (places' : List (Option ℕ)) (order' : List Found) : Type 0 where
  pub size : length places' ≡ length places
  pub more : length order ≤ length order'
  pub has : (s : Slot) → HasPlace places s → HasPlace places' s
  pub slots : (p : ℕ) → p < length order → slot_at order' p ≡ slot_at order p
  pub steps : (p : ℕ) → p < length order → by_at order' p ≡ by_at order p
