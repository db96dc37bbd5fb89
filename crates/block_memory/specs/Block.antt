-- A block: its cells, and the types of its integers.
use Rattle.std.specs.Prelude.{ℕ, pos, List, [], ◌∷◌, length, replicate, slice_set}
use Rattle.pt_base.specs.declared.int_type.IntType.{IntType}
use Rattle.block_memory.specs.declared.cell.Cell.{Cell}
use Rattle.block_memory.specs.declared.cell.Cell.TheVariants.{Int, Ptr}
use Rattle.block_memory.specs.declared.cell.Pointer.TheVariants.{Null}
use Rattle.block_memory.specs.declared.shape.BlockShape.{BlockShape}
use Rattle.block_memory.specs.declared.shape.BlockShape.TheVariants.{OnePointer, Ints}

-- a pointer's block has one cell and no types, any other block as many types as cells
pub record Block : Type 0 where
  pub types : List IntType
  pub cells : List Cell

-- what a name that isn't live has
abbrev pub no_block : Block
no_block = record { types = []; cells = [] }

-- the block as it is when its declaration is reached: each integer is 0, the pointer is null
abbrev pub fresh : BlockShape → Block
fresh OnePointer = record { types = []; cells = Ptr Null ∷ [] }
fresh (Ints types) = record { types = types; cells = replicate (length types) (Int (pos 0)) }

-- the block with this in one cell
abbrev pub with_cell : Block → ℕ → Cell → Block
with_cell block i cell = record { types = block.types; cells = slice_set block.cells i cell }
