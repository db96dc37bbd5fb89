-- What the text of a program comes to when its flows are checked.
use Rattle.std.specs.Prelude.{◌≡◌, ℕ, List}
use Rattle.std.specs.List.{flat_map}
use Rattle.front_end.specs.Reading.{HasTypedTree}
use Rattle.typed_tree.specs.TypedTree.{TypedTree}
use Rattle.flow_rules.specs.declared.accepted.Accepted.{Accepted}
use Rattle.flow_rules.specs.Faults.{IsAccepted}
use Rattle.stages.specs.Climb.{Texts}
use Rattle.flow_check.specs.Shown.{AreShown}
use Rattle.flow_check.specs.SlotLines.{slot_line}

-- the program breaks no rule, and these lines show its privileged slots
pub record HasSlotLines (t : TypedTree) (lines : List ℕ) : Type 0 where
  pub accepted : Accepted
  pub is : IsAccepted t accepted
  pub slots : List ℕ
  pub shown : AreShown t accepted.sides slots
  pub lines_are : lines ≡ flat_map (slot_line t) slots

-- no stage has a fault, and these lines show the program's privileged slots
abbrev pub IsChecked : Texts → List ℕ → Type 0
IsChecked t lines = (tree : TypedTree) × HasTypedTree t.program tree × HasSlotLines tree lines
