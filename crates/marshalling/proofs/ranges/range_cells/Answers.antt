use Rattle.marshalling.proofs.RangeLemmas.{repeat_more}
use Rattle.marshalling.proofs.ranges.range_cells.Goals as goal

pub loop-preserved : goal.loop-preserved
loop-preserved c =
    repeat_more c.in_ok-element.element.items c.args.count c.loop.counter c.loop.leaves.items _ c.as_slice.result.now _ c.loop-test.true
    c.in_ok-extend_from_slice.ensures.items c.as_slice.ensures.value c.loop.invariant
