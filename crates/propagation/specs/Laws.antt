-- Laws on marks.
use Rattle.std.specs.Prelude.{◌<◌, ◌↔◌, ℕ, List, Bool, IsTrue, Contains, All}
use Rattle.pt_base.specs.declared.slot.Slot.{Slot}
use Rattle.pt_base.specs.declared.slot.Edge.{Edge}
use Rattle.propagation.specs.Marks.{AreMarks, IsMarked, Shown}
use Rattle.propagation.specs.Paths.{IsShortestPath, IsSimplePath}

-- each element of xs is one of ys
abbrev pub AreIn : {X : Type 0} → List X → List X → Type 0
AreIn {X} xs ys = (x : X) → Contains xs x → Contains ys x

-- more seeds and more edges mark no less
abbrev pub MoreMarksMore : Type 0
MoreMarksMore = (seeds seeds' : List Slot) (edges edges' : List Edge) (slots : ℕ) (marks marks' : Shown) →
    AreMarks seeds edges slots marks → AreMarks seeds' edges' slots marks' →
    AreIn seeds seeds' → AreIn edges edges' →
    (s : Slot) → IsMarked marks s → IsMarked marks' s

-- the same seeds and edges mark the same slots, in whatever order and however often they are listed
abbrev pub OrderIsFree : Type 0
OrderIsFree = (seeds seeds' : List Slot) (edges edges' : List Edge) (slots : ℕ) (marks marks' : Shown) →
    AreMarks seeds edges slots marks → AreMarks seeds' edges' slots marks' →
    AreIn seeds seeds' → AreIn seeds' seeds → AreIn edges edges' → AreIn edges' edges →
    (s : Slot) → IsMarked marks s ↔ IsMarked marks' s

-- a set of slots has the seeds, and with the start of an edge it has its end
pub record IsClosed (seeds : List Slot) (edges : List Edge) (Has : Slot → Type 0) : Type 0 where
  pub seeded : All Has seeds
  pub follows : All (λ e. Has e.from → Has e.to) edges

-- the marked slots are such a set, and each such set has them
abbrev pub MarksAreLeast : Type 0
MarksAreLeast = (seeds : List Slot) (edges : List Edge) (slots : ℕ) (marks : Shown) →
    AreMarks seeds edges slots marks → All (λ s. s.0 < slots) seeds → All (λ e. e.to.0 < slots) edges →
    IsClosed seeds edges (IsMarked marks) ×
    ((set : Slot → Bool) → IsClosed seeds edges (λ s. IsTrue (set s)) →
    (s : Slot) → IsMarked marks s → IsTrue (set s))

-- a shortest path comes to no slot twice
abbrev pub ShortestPathsAreSimple : Type 0
ShortestPathsAreSimple = (seeds : List Slot) (edges : List Edge) (path : List ℕ) (s : Slot) →
    IsShortestPath seeds edges path s → IsSimplePath seeds edges path s
