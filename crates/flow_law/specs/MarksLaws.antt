-- Marks exist.
use Rattle.std.specs.Prelude.{ℕ, List}
use Rattle.pt_base.specs.declared.slot.Slot.{Slot}
use Rattle.pt_base.specs.declared.slot.Edge.{Edge}
use Rattle.propagation.specs.Marks.{AreMarks, Shown}

-- whatever the seeds and edges are, and however many slots there are, there are marks
abbrev pub ThereAreMarks : Type 0
ThereAreMarks = (seeds : List Slot) (edges : List Edge) (slots : ℕ) → (marks : Shown) × AreMarks seeds edges slots marks
