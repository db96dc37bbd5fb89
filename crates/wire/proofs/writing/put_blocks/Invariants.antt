use Rattle.std.proofs.Common.{drop}
use Rattle.wire.specs.Spelling.{block_bytes}
use Rattle.wire.specs.Limits.{FitsBlock}
use Rattle.wire.proofs.Put.{Putting}
use Rattle.wire.proofs.writing.put_blocks.Given as goal

abbrev pub invariant-loop-block : goal.invariant-loop-block
invariant-loop-block l = Putting block_bytes FitsBlock l.fn.blocks (drop l.block-index l.blocks) l.fn.out.items l.out.items
