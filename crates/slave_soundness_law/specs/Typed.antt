-- Which types the handles in a slave's memory have.
use Rattle.std.specs.Prelude.{◌≡◌, ◌<◌, ◌^◌, ℕ, List, Some, IsTrue, All, is_some, slice_get}
use Rattle.pt_base.specs.declared.int_type.IntType.{IntType}
use Rattle.block_memory.specs.declared.cell.Cell.TheVariants.{Sealed}
use Rattle.block_memory.specs.declared.cell.BlockName.{BlockName}
use Rattle.wire.specs.declared.message.ReplyBody.{ReplyBody}
use Rattle.host_models.specs.Fitting.{fits}
use Rattle.pt_core.specs.CodeTree.{BootTree}
use Rattle.pt_core.specs.CoreRun.{main_in}
use Rattle.pt_core.specs.WellFormed.{boot_program, function_at, is_well_formed_boot}
use Rattle.pair_meaning.specs.Pair.{slave_at}
use Rattle.pair_meaning.specs.SlaveRun.{Slave}

-- the slave was given this handle as one that stands for a number of the cell's type
pub record HasItsType (x : Slave) (block : BlockName) (n handle : ℕ) : Type 0 where
  pub ty : IntType
  pub cell : slice_get (x.machine.blocks block).types n ≡ Some ty
  pub given : slice_get x.given handle ≡ Some ty

-- Of a well formed boot in which main is a function of its own, whoever made it, and whatever replies the slave is given: after any
-- number of steps each handle in its memory lies in a cell of the type of the number that it stands for.
abbrev pub HandlesHaveTheirTypes : Type 0
HandlesHaveTheirTypes = (b : BootTree) (replies : List ReplyBody) (k : ℕ) → IsTrue (is_well_formed_boot fits b) → All (λ x. x < 256) b.input → b.turns < 2 ^ 32 → IsTrue (is_some (function_at (boot_program b) (main_in (boot_program b)))) →
    (block : BlockName) (n handle : ℕ) → slice_get ((slave_at b replies k).slave.machine.blocks block).cells n ≡ Some (Sealed handle) → HasItsType (slave_at b replies k).slave block n handle
