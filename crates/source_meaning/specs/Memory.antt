-- The memory of the original program: which cells lie in which block.
use Rattle.std.specs.Prelude.{ℕ, ℤ, pos, Bool, false, ◌&&◌, List, [], if◌then◌else◌, nat_eq, get_or, slice_index_or, slice_set}

-- Objects are blocks of cells. A local's is known by its variable and by how deep its function's call
-- is, a global's by number.
pub data Block : Type 0 where
  local : ℕ → ℕ → Block
  global : ℕ → Block

-- A cell holds a number, or it is null, or it points: into a block, with a base cell, a count of
-- elements and an index.
pub data Cell : Type 0 where
  number : ℤ → Cell
  null : Cell
  pointer : Block → ℕ → ℕ → ℕ → Cell

abbrev pub same_block : Block → Block → Bool
same_block (local depth x) (local depth' x') = nat_eq depth depth' && nat_eq x x'
same_block (local depth x) (global g) = false
same_block (global g) (local depth x) = false
same_block (global g) (global g') = nat_eq g g'

-- the cells under each name; none under a name that isn't live
abbrev pub Memory : Type 0
Memory = Block → List Cell

abbrev pub nothing_live : Memory
nothing_live block = []

-- the memory in which this block has these cells, and the others are as they were
abbrev pub put : Memory → Block → List Cell → Memory
put memory block cells other = if same_block other block then cells else memory other

-- the memory in which the function that was called at this depth has these cells in its variables, each
-- in its own, and the others' are as they were
abbrev pub with_frame : Memory → ℕ → List (List Cell) → Memory
with_frame memory depth frame (local d x) = if nat_eq d depth then get_or frame x [] else memory (local d x)
with_frame memory depth frame (global g) = memory (global g)

-- one cell
abbrev pub read : Memory → Block → ℕ → Cell
read memory block at = slice_index_or (memory block) at (number (pos 0))

-- the memory in which one cell is written, and its neighbours are as they were
abbrev pub write : Memory → Block → ℕ → Cell → Memory
write memory block at cell = put memory block (slice_set (memory block) at cell)

-- the depth of the call whose variable it is; 0 of a global
abbrev pub depth_of : Block → ℕ
depth_of (local depth x) = depth
depth_of (global g) = 0
