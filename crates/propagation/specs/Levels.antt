-- How far from the seeds the reached slots are.
use Rattle.std.specs.Prelude.{◌≡◌, ◌<◌, ◌≤◌, ◌+◌, ℕ, List, length, Option, Some, None, All}
use Rattle.pt_base.specs.declared.slot.Slot.{Slot}
use Rattle.pt_base.specs.declared.slot.Edge.{Edge}
use Rattle.propagation.specs.declared.reached.Found.{Found}
use Rattle.propagation.specs.Paths.{from_of, to_of}
use Rattle.propagation.specs.Reached.{AreSound, by_at, place_of}
use Rattle.propagation.specs.Shown.{path_of}

-- along how many edges the slot at a place was reached
abbrev pub level : List Found → ℕ → ℕ
level order p = length (path_of order p)

-- levels rise along the order, and none is more than one above that of the slot at this place
pub record AreLevels (order : List Found) (at : ℕ) : Type 0 where
  pub rise : (p q : ℕ) → p ≤ q → q < length order → level order p ≤ level order q
  pub near : (q : ℕ) → at < length order → q < length order → level order q ≤ level order at + 1

-- no slot was reached by a step
abbrev pub AreRoots : List Found → Type 0
AreRoots order = (p : ℕ) → p < length order → by_at order p ≡ None

-- the slot was reached, along so many edges at most
abbrev pub IsWithin : List (Option ℕ) → List Found → ℕ → Slot → Type 0
IsWithin places order n s = (p : ℕ) × (place_of places s ≡ Some p) × (level order p ≤ n)

-- what was reached has the seeds, and along each edge goes on by one level at most
pub record AreDone (seeds : List Slot) (edges : List Edge) (slots : ℕ) (places : List (Option ℕ)) (order : List Found) : Type 0 where
  pub sound : AreSound seeds edges slots places order
  pub seeded : All (IsWithin places order 0) seeds
  pub closed : (k p : ℕ) → k < length edges → place_of places (from_of edges k) ≡ Some p → IsWithin places order (level order p + 1) (to_of edges k)
