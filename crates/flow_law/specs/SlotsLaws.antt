-- When there are sides of a program.
use Rattle.std.specs.Prelude.{◌≤◌, ◌^◌, length, IsTrue}
use Rattle.typed_tree.specs.TypedTree.{TypedTree}
use Rattle.typed_tree.specs.WellFormed.{is_well_formed}
use Rattle.sides.specs.declared.halves.Sides.{Sides}
use Rattle.sides.specs.Placed.{AreSides}
use Rattle.sides.specs.Slots.{slots_of}

-- the program has at most 2^25 slots
abbrev pub HasFewSlots : TypedTree → Type 0
HasFewSlots t = length (slots_of t) ≤ 2 ^ 25

-- each well formed program of few slots has sides
abbrev pub ThereAreSides : Type 0
ThereAreSides = (t : TypedTree) → IsTrue (is_well_formed t) → HasFewSlots t → (s : Sides) × AreSides t s

-- a program that has sides is one of few slots
abbrev pub SidesAreOfFewSlots : Type 0
SidesAreOfFewSlots = (t : TypedTree) (s : Sides) → AreSides t s → HasFewSlots t
