-- What may be put into a machine's memory.
use Rattle.std.specs.Prelude.{List}
use Rattle.pt_core.specs.CodeTree.{ProgramTree}
use Rattle.pt_core.specs.Steps as s
use Rattle.core_machine.specs.declared.machine.Machine.{Machine}
use Rattle.core_machine.specs.Machines.{Shown}
use Rattle.marshalling.specs.declared.returned.ReturnedBlock.{ReturnedBlock}
use Rattle.marshalling.specs.Returns.{AreAsLong}

-- each block has as many cells as the machine's
pub record Returns (x : Machine) (blocks : List ReturnedBlock) : Type 0 where
  pub program : ProgramTree
  pub machine : s.Machine
  pub shown : Shown program x machine
  pub long : AreAsLong machine.blocks blocks

-- so it is, whatever the machine shows
abbrev pub MayReturn : Machine → List ReturnedBlock → Type 0
MayReturn x blocks = ∥ Returns x blocks ∥₁
