-- Paths of edges, and the slots that they reach from seeds.
use Rattle.std.specs.Prelude.{◌≡◌, ◌≢◌, ◌<◌, ◌≤◌, ℕ, List, [], ◌∷◌, length, map, slice_index_or, Contains, AllPairs}
use Rattle.pt_base.specs.declared.slot.Slot.{Slot}
use Rattle.pt_base.specs.declared.slot.Edge.{Edge}

-- no edge, for numbers past the end
abbrev pub no_edge : Edge
no_edge = record { from = record { 0 = 0 }; to = record { 0 = 0 }; span = record { from = 0; to = 0 } }

-- the slots that the edge with this number leads from and to
abbrev pub from_of : List Edge → ℕ → Slot
from_of edges k = (slice_index_or edges k no_edge).from

abbrev pub to_of : List Edge → ℕ → Slot
to_of edges k = (slice_index_or edges k no_edge).to

-- the edges with these numbers lead from a to b, each beginning where the one before ends
abbrev pub Leads : List Edge → List ℕ → Slot → Slot → Type 0
Leads edges [] a b = a ≡ b
Leads edges (k ∷ path) a b = (k < length edges) × (from_of edges k ≡ a) × Leads edges path (to_of edges k) b

-- a slot is privileged: a path leads to it from a seed
abbrev pub IsPriv : List Slot → List Edge → Slot → Type 0
IsPriv seeds edges s = (seed : Slot) × (path : List ℕ) × Contains seeds seed × Leads edges path seed s

-- no path from a seed to the slot has fewer edges than so many
abbrev pub IsFewest : List Slot → List Edge → ℕ → Slot → Type 0
IsFewest seeds edges n s = (seed : Slot) (path : List ℕ) → Contains seeds seed → Leads edges path seed s → n ≤ length path

-- a path from a seed to the slot, and no other path from a seed to it has fewer edges
abbrev pub IsShortestPath : List Slot → List Edge → List ℕ → Slot → Type 0
IsShortestPath seeds edges path s =
    (seed : Slot) × Contains seeds seed × Leads edges path seed s × IsFewest seeds edges (length path) s

-- the slots that a path from a comes to
abbrev pub visits : List Edge → List ℕ → Slot → List Slot
visits edges path a = a ∷ map (to_of edges) path

-- a path from a seed to the slot, which comes to no slot twice
abbrev pub IsSimplePath : List Slot → List Edge → List ℕ → Slot → Type 0
IsSimplePath seeds edges path s =
    (seed : Slot) × Contains seeds seed × Leads edges path seed s × AllPairs (λ a b. a ≢ b) (visits edges path seed)
