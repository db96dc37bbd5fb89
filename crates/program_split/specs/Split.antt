-- What texts come to when their program is split.
use Rattle.std.specs.Prelude.{◌≡◌, ℕ, List}
use Rattle.front_end.specs.Reading.{HasTypedTree}
use Rattle.typed_tree.specs.TypedTree.{TypedTree}
use Rattle.flow_rules.specs.declared.accepted.Accepted.{Accepted}
use Rattle.flow_rules.specs.Faults.{IsAccepted}
use Rattle.program_halves.specs.ProgramHalves.{monitor_half, slave_half}
use Rattle.split_text.specs.Texts.{slave_text, monitor_text}
use Rattle.stages.specs.Climb.{Texts}

-- The texts of a program's halves.
pub record HalfTexts : Type 0 where
  pub slave : List ℕ
  pub monitor : List ℕ

-- the program breaks no rule, and these are the texts of its halves
pub record HasHalves (t : TypedTree) (slave monitor : List ℕ) : Type 0 where
  pub accepted : Accepted
  pub is : IsAccepted t accepted
  pub slave_is : slave ≡ slave_text (slave_half t accepted)
  pub monitor_is : monitor ≡ monitor_text (monitor_half t accepted)

-- no stage has a fault, and these are the texts of the program's halves
abbrev pub IsSplit : Texts → HalfTexts → Type 0
IsSplit t h = (tree : TypedTree) × HasTypedTree t.program tree × HasHalves tree h.slave h.monitor
