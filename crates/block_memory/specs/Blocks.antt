-- A memory: which block each name has, and how calls change that.
use Rattle.std.specs.Prelude.{◌≡◌, ◌≤◌, ℕ, List, length, map, Bool, false, ◌&&◌, nat_eq, nat_lt, if◌then◌else◌, slice_index_or}
use Rattle.pt_base.specs.declared.int_type.IntType.{IntType}
use Rattle.block_memory.specs.declared.cell.BlockName.{BlockName}
use Rattle.block_memory.specs.declared.cell.BlockName.TheVariants.{Local, Global, Received}
use Rattle.block_memory.specs.declared.shape.BlockShape.{BlockShape}
use Rattle.block_memory.specs.Block.{Block, fresh, no_block}

-- the block of each name, and no block where a name has none
abbrev pub Blocks : Type 0
Blocks = BlockName → Block

abbrev pub no_blocks : Blocks
no_blocks name = no_block

abbrev pub is_same_name : BlockName → BlockName → Bool
is_same_name (Local depth var) (Local depth' var') = nat_eq depth depth' && nat_eq var var'
is_same_name (Local depth var) (Global number) = false
is_same_name (Local depth var) (Received number) = false
is_same_name (Global number) (Local depth var) = false
is_same_name (Global number) (Global number') = nat_eq number number'
is_same_name (Global number) (Received number') = false
is_same_name (Received number) (Local depth var) = false
is_same_name (Received number) (Global number') = false
is_same_name (Received number) (Received number') = nat_eq number number'

-- this block under this name, and every other name's as it was
abbrev pub put : Blocks → BlockName → Block → Blocks
put blocks name block = λ other. if is_same_name name other then block else blocks other

-- a function with variables of these shapes is entered at this depth
abbrev pub with_frame : Blocks → ℕ → List BlockShape → Blocks
with_frame blocks depth shapes (Local d var) =
    if nat_eq d depth then slice_index_or (map fresh shapes) var no_block else blocks (Local d var)
with_frame blocks depth shapes (Global number) = blocks (Global number)
with_frame blocks depth shapes (Received number) = blocks (Received number)

-- the functions that were entered at this depth or deeper have returned
abbrev pub without_frames : Blocks → ℕ → Blocks
without_frames blocks depth (Local d var) = if nat_lt d depth then blocks (Local d var) else no_block
without_frames blocks depth (Global number) = blocks (Global number)
without_frames blocks depth (Received number) = blocks (Received number)

-- no local of this depth or a greater one is live
pub record IsFree (blocks : Blocks) (depth : ℕ) : Type 0 where
  pub none : (d var : ℕ) → depth ≤ d → blocks (Local d var) ≡ no_block

-- a block of these types and so many cells may be put under the name: a local keeps what it has
abbrev pub HasRoom : Blocks → BlockName → List IntType → ℕ → Type 0
HasRoom blocks (Local depth var) types cells =
    ((blocks (Local depth var)).types ≡ types) × (length (blocks (Local depth var)).cells ≡ cells)
HasRoom blocks (Global number) types cells = Unit {0}
HasRoom blocks (Received number) types cells = Unit {0}
