-- Blocks whose cells lie in one list, and whose types lie in another.
use Rattle.std.specs.Prelude.{ℕ, List, [], ◌∷◌, length, map}
use Rattle.pt_base.specs.declared.int_type.IntType.{IntType}
use Rattle.block_memory.specs.declared.cell.Cell.{Cell}
use Rattle.block_memory.specs.declared.start.Start.{Start}
use Rattle.block_memory.specs.Block.{Block}
use Rattle.block_memory.specs.Pieces.{AreStarts, pieces}

abbrev pub type_starts : List Start → List ℕ
type_starts starts = map (λ s. s.types) starts

abbrev pub cell_starts : List Start → List ℕ
cell_starts starts = map (λ s. s.cells) starts

-- the blocks with these types and cells
abbrev pub joined : List (List IntType) → List (List Cell) → List Block
joined [] cells = []
joined (t ∷ types) [] = []
joined (t ∷ types) (c ∷ cells) = record { types = t; cells = c } ∷ joined types cells

-- the blocks that start at these places
abbrev pub stacked : List Start → List IntType → List Cell → List Block
stacked starts types cells = joined (pieces (type_starts starts) types) (pieces (cell_starts starts) cells)

pub record IsStack (starts : List Start) (types : List IntType) (cells : List Cell) : Type 0 where
  pub types_rise : AreStarts 0 (type_starts starts) (length types)
  pub cells_rise : AreStarts 0 (cell_starts starts) (length cells)
