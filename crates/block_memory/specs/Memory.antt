-- What a block memory shows.
use Rattle.block_memory.specs.declared.cell.BlockName.TheVariants.{Local, Global, Received}
use Rattle.block_memory.specs.declared.block_memory.BlockMemory.{BlockMemory}
use Rattle.block_memory.specs.Blocks.{Blocks}
use Rattle.block_memory.specs.Frames.{local_at}
use Rattle.block_memory.specs.Table.{numbered}

-- the block of each name
unfoldable pub blocks_of : BlockMemory → Blocks
blocks_of memory (Local depth var) = local_at memory.locals depth var
blocks_of memory (Global number) = numbered memory.globals number
blocks_of memory (Received number) = numbered memory.received number
