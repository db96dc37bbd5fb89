-- What outlining a text comes to.
use Rattle.std.specs.Prelude.{◌≡◌, ℕ, List}
use Rattle.front_end.specs.Reading.{HasTypedTree}
use Rattle.typed_tree.specs.TypedTree.{TypedTree}
use Rattle.flow_rules.specs.declared.accepted.Accepted.{Accepted}
use Rattle.flow_rules.specs.Faults.{IsAccepted}
use Rattle.pt_core.specs.CodeTree.{MonitorTree, SlaveTree}
use Rattle.program_halves.specs.ProgramHalves.{monitor_half, slave_half}
use Rattle.stages.specs.Climb.{Texts}
use Rattle.starting_texts.specs.declared.texts.StartingTable.{StartingTable}
use Rattle.starting_texts.specs.declared.texts.StartingPolicy.{StartingPolicy}
use Rattle.starting_texts.specs.Tables.{IsStartingTable}
use Rattle.starting_texts.specs.Policies.{IsStartingPolicy}
use Rattle.outlining.specs.OutlineTexts.{guarded_in, outline_text}

-- it is the outline of a program of these halves, with a host table and a policy to start from
pub record IsOutlineOf (t : TypedTree) (slave : SlaveTree) (monitor : MonitorTree) (out : List ℕ) : Type 0 where
  pub table : StartingTable
  pub table_is : IsStartingTable t table
  pub policy : StartingPolicy
  pub policy_is : IsStartingPolicy t (guarded_in t monitor.entries) policy
  pub out_is : out ≡ outline_text t slave monitor table policy

-- no stage has a fault, and it is the outline of the program
pub record IsOutline (t : Texts) (out : List ℕ) : Type 0 where
  pub tree : TypedTree
  pub typed : HasTypedTree t.program tree
  pub accepted : Accepted
  pub is : IsAccepted tree accepted
  pub outlined : IsOutlineOf tree (slave_half tree accepted) (monitor_half tree accepted) out
