-- Marks, as contracts see them.
use Rattle.std.specs.Prelude.{◌≡◌, ◌<◌, ℕ, List, Option, None, length, slice_index_or, MatchOption, IsSome}
use Rattle.pt_base.specs.declared.slot.Slot.{Slot}
use Rattle.pt_base.specs.declared.slot.Edge.{Edge}
use Rattle.propagation.specs.Paths.{IsPriv, IsShortestPath}

-- for each slot the path that is shown for it, and None where it isn't privileged
abbrev pub Shown : Type 0
Shown = List (Option (List ℕ))

abbrev pub path_shown : Shown → Slot → Option (List ℕ)
path_shown marks s = slice_index_or marks s.0 None

abbrev pub IsMarked : Shown → Slot → Type 0
IsMarked marks s = IsSome (path_shown marks s)

-- the marks of so many slots: of each privileged one a shortest path from a seed, and none of the others
pub record AreMarks (seeds : List Slot) (edges : List Edge) (slots : ℕ) (marks : Shown) : Type 0 where
  pub size : length marks ≡ slots
  pub paths : (s : Slot) → s.0 < slots →
      MatchOption (path_shown marks s) (¬ IsPriv seeds edges s) (λ path. IsShortestPath seeds edges path s)
