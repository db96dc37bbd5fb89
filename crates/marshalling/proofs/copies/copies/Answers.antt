use Rattle.std.proofs.Common.{get_or}
use Rattle.block_memory.specs.declared.cell.BlockName.TheVariants.{Local}
use Rattle.machine_memory.specs.Memory.{blocks_of}
use Rattle.marshalling.specs.Returns.{is_ranged}
use Rattle.marshalling.proofs.CopyLemmas.{copied_more}
use Rattle.marshalling.proofs.Lists.{self_read}
use Rattle.marshalling.proofs.copies.copies.Goals as goal

pub loop-number-preserved : goal.loop-number-preserved
loop-number-preserved c =
    copied_more (is_ranged c.args.ranges.now) (blocks_of c.args.memory.now) c.args.targets.now c.loop-number.number
    (get_or c.args.targets.now c.loop-number.number (Local 0 0)) c.loop-number.blocks.items _ _ c.loop-number-test.true
    (self_read c.args.targets.now c.loop-number.number (Local 0 0) c.loop-number-test.true) c.in_ok-add_copy.ensures c.loop-number.invariant
