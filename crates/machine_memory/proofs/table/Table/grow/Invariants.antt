use Rattle.std.proofs.Common.{◌-◌, suc, vec_len}
use Rattle.block_memory.specs.Table.{SameBlocks}
use Rattle.machine_memory.proofs.table.Table.grow.Given as goal

abbrev pub invariant-loop-alloc : goal.invariant-loop-alloc
invariant-loop-alloc l = SameBlocks l.fn.self l.self-inside.blocks.items

abbrev pub decreases-loop-alloc : goal.decreases-loop-alloc
decreases-loop-alloc l = suc l.number - vec_len l.self-inside.blocks
