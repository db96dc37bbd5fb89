use Rattle.std.proofs.Common.{◌<◌, ◌^◌, ◌∙◌, arith, drop, length, length-set}
use Rattle.marshalling.specs.Ranges.{crossing_among}
use Rattle.marshalling.proofs.ReturnLemmas.{counts_stay, left_more, listed_room, listed_step, midway_at, read_left}
use Rattle.marshalling.proofs.taking.take_blocks.Goals as goal

pub take_block-at-requires : goal.take_block-at-requires
take_block-at-requires c =
    let old = c.args.blocks.now.items in
    let lt : c.loop-j.j < length old = omega (arith, c.len-j-end.ensures) in
    record {
      room = listed_room (crossing_among c.args.ranges.now) old c.loop-j.j c.index_mut.result.now c.loop-j.names _ (2 ^ 63) lt
          (read_left c.loop-j.blocks.items old c.loop-j.j c.index_mut.result.now c.loop-j.invariant.left c.index_mut.ensures.value)
          c.loop-j.invariant.next c.requires.room;
    }

pub loop-j-preserved : goal.loop-j-preserved
loop-j-preserved c =
    let old = c.args.blocks.now.items in
    let now = c.loop-j.blocks.items in
    let b = c.index_mut.result.now in
    let lt : c.loop-j.j < length old = omega (arith, c.len-j-end.ensures) in
    let read = read_left now old c.loop-j.j b c.loop-j.invariant.left c.index_mut.ensures.value in
    record {
      midway = λ before copies.
          midway_at (crossing_among c.args.ranges.now) old now c.loop-j.j b c.take_block-at.new.block (drop c.loop-j.at c.args.sent.now)
          (drop c.take_block-at.result c.args.sent.now) c.loop-j.names c.take_block-at.new.names before _ lt c.loop-j.invariant.count read
          c.take_block-at.ensures.name c.take_block-at.ensures.cells (c.loop-j.invariant.midway before copies);
      next = listed_step (crossing_among c.args.ranges.now) old c.loop-j.j b c.loop-j.names c.take_block-at.new.names _ lt read
          c.take_block-at.ensures.next c.loop-j.invariant.next;
      left = left_more now old c.loop-j.j c.take_block-at.new.block c.loop-j.invariant.left;
      counts = counts_stay now old c.loop-j.j b c.take_block-at.new.block (omega (arith, lt, c.loop-j.invariant.count)) c.index_mut.ensures.value
          c.take_block-at.ensures.name c.take_block-at.ensures.count c.loop-j.invariant.counts;
      count = length-set now c.loop-j.j c.take_block-at.new.block ∙ c.loop-j.invariant.count;
    }
