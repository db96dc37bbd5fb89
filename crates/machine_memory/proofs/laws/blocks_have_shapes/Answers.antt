use Rattle.machine_memory.proofs.ShapeLemmas.{block_shape}
use Rattle.machine_memory.proofs.laws.blocks_have_shapes.Goals as goal

pub returns : goal.returns
returns c = block_shape
