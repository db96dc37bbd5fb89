use Rattle.marshalling.specs.Ranges.{crossing_among}
use Rattle.marshalling.proofs.WantLemmas.{block_other, block_plain}
use Rattle.marshalling.proofs.wants.blocks_hold_number.Goals as goal

pub returns-then-holds_number : goal.returns-then-holds_number
returns-then-holds_number c =
    block_plain (crossing_among c.args.ranges.now) c.loop-k.k c.args.blocks.now c.index-blocks-k.result c.as_slice.result.now c.holds_number.result _
    c.loop-k-test.true c.index-blocks-k.is c.as_slice.ensures c.holds_number.ensures c.if-holds_number.true c.loop-k.invariant

pub loop-k-preserved : goal.loop-k-preserved
loop-k-preserved c =
    block_other (crossing_among c.args.ranges.now) c.loop-k.k c.args.blocks.now c.index-blocks-k.result c.as_slice.result.now c.holds_number.result _
    c.loop-k-test.true c.index-blocks-k.is c.as_slice.ensures c.holds_number.ensures c.if-holds_number.false c.loop-k.invariant
