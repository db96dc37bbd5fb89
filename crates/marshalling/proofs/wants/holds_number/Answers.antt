use Rattle.std.proofs.Common.{◌<◌, arith, length}
use Rattle.marshalling.specs.Ranges.{crossing_among}
use Rattle.marshalling.proofs.WantLemmas.{cell_other, cell_plain}
use Rattle.marshalling.proofs.wants.holds_number.Goals as goal

pub returns-then-is_plain : goal.returns-then-is_plain
returns-then-is_plain c =
    let lt : c.loop-i.i < length c.args.block.now = omega arith in
    cell_plain (crossing_among c.args.ranges.now) c.crossing_at.result c.args.k c.loop-i.i c.args.block.now c.is_plain.result _ lt
    c.crossing_at.ensures c.is_plain.ensures c.if-is_plain.true c.loop-i.invariant

pub loop-i-preserved : goal.loop-i-preserved
loop-i-preserved c =
    let lt : c.loop-i.i < length c.args.block.now = omega arith in
    cell_other (crossing_among c.args.ranges.now) c.crossing_at.result c.args.k c.loop-i.i c.args.block.now c.is_plain.result _ lt
    c.crossing_at.ensures c.is_plain.ensures c.if-is_plain.false c.loop-i.invariant
