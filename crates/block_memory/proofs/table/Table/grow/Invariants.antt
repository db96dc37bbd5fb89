use Rattle.std.proofs.Common.{◌-◌, suc, vec_len}
use Rattle.block_memory.specs.Table.{SameBlocks}
use Rattle.block_memory.proofs.table.Table.grow.Given as goal

abbrev pub invariant-loop-self : goal.invariant-loop-self
invariant-loop-self l = SameBlocks l.fn.self l.self-inside.blocks.items

abbrev pub decreases-loop-self : goal.decreases-loop-self
decreases-loop-self l = suc l.number - vec_len l.self-inside.blocks
