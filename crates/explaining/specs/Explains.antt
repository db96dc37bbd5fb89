-- What is told of a text in a file of a given name.
use Rattle.std.specs.Prelude.{◌≡◌, ℕ, List}
use Rattle.std.specs.List.{flat_map}
use Rattle.front_end.specs.Reading.{HasTypedTree}
use Rattle.typed_tree.specs.TypedTree.{TypedTree}
use Rattle.flow_rules.specs.declared.accepted.Accepted.{Accepted}
use Rattle.flow_rules.specs.declared.fault.FlowFault.{FlowFault}
use Rattle.flow_rules.specs.Faults.{IsAccepted}
use Rattle.stages.specs.Climb.{Texts}
use Rattle.flow_check.specs.Shown.{AreShown}
use Rattle.explaining.specs.declared.homes.Home.{Home}
use Rattle.explaining.specs.FlowBlocks.{flow_block}
use Rattle.explaining.specs.Homes.{AreHomes}
use Rattle.explaining.specs.Holdings.{holding}
use Rattle.explaining.specs.Order.{AreInTurn}

-- ---- a text that isn't accepted

-- the blocks of faults of flows, those of one beginning together
abbrev pub AreFlowBlocks : List ℕ → List ℕ → TypedTree → List FlowFault → List ℕ → Type 0
AreFlowBlocks name text t faults report =
    (homes : List Home) × AreHomes t homes × (order : List FlowFault) × AreInTurn faults order × (report ≡ flat_map (flow_block name text t homes) order)

-- ---- a text that is accepted

-- the lines tell the privileged slots that `check` shows
pub record HasHoldings (name text : List ℕ) (t : TypedTree) (lines : List ℕ) : Type 0 where
  pub accepted : Accepted
  pub is : IsAccepted t accepted
  pub slots : List ℕ
  pub shown : AreShown t accepted.sides slots
  pub lines_are : lines ≡ flat_map (holding name text t) slots

-- no stage has a fault, and the lines tell these slots of the program in a file of this name
abbrev pub IsHeld : List ℕ → Texts → List ℕ → Type 0
IsHeld name t lines = (tree : TypedTree) × HasTypedTree t.program tree × HasHoldings name t.program tree lines
