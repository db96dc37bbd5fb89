use Rattle.std.proofs.Common.{◌<◌, ◌^◌, arith, drop, length}
use Rattle.marshalling.specs.Ranges.{crossing_among}
use Rattle.marshalling.specs.Plans.{part, with_block}
use Rattle.marshalling.proofs.ReturnLemmas.{back_at, back_length, next_room, next_step}
use Rattle.marshalling.proofs.TakingLemmas.{cell_more}
use Rattle.marshalling.proofs.taking.take_block.Goals as goal

pub take_cell-at-requires-clause-room : goal.take_cell-at-requires-clause-room
take_cell-at-requires-clause-room c =
    next_room (crossing_among c.args.ranges.now c.args.block.now.number) c.crossing_at-crossing.result c.loop-i.i
    (length c.args.block.now.cells.items) c.args.names.now c.loop-i.names (2 ^ 63) (omega (arith, c.len-i-end.ensures))
    c.crossing_at-crossing.ensures c.loop-i.invariant.next c.requires.room

pub loop-i-preserved : goal.loop-i-preserved
loop-i-preserved c =
    let name = c.args.block.now.name in
    let number = c.args.block.now.number in
    let cells = c.loop-i.block.cells.items in
    let after = c.take_cell-at.new.cells.items in
    let left = drop c.loop-i.at c.args.sent.now in
    let behind = drop c.take_cell-at.result c.args.sent.now in
    record {
      part = λ before types long.
          let lt : c.loop-i.i < length types = omega (arith, long, c.len-i-end.ensures) in
          cell_more (crossing_among c.args.ranges.now) name number c.loop-i.i types c.crossing_at-crossing.result
          (part left c.loop-i.names (with_block before name types cells))
          (part behind c.take_cell-at.new.names (with_block before name types after)) _ lt c.crossing_at-crossing.ensures
          (back_at c.crossing_at-crossing.result name c.loop-i.i types cells after left behind c.loop-i.names c.take_cell-at.new.names before
          c.take_cell-at.ensures.cells c.take_cell-at.ensures.sent c.take_cell-at.ensures.names)
          (c.loop-i.invariant.part before types long);
      next = next_step (crossing_among c.args.ranges.now number) c.crossing_at-crossing.result c.loop-i.i c.args.names.now c.loop-i.names
          c.take_cell-at.new.names c.crossing_at-crossing.ensures c.loop-i.invariant.next c.take_cell-at.ensures.names;
      count = back_length c.crossing_at-crossing.result c.loop-i.i left c.loop-i.names cells after c.args.block.now.cells.items
          c.take_cell-at.ensures.cells c.loop-i.invariant.count;
      name = c.loop-i.invariant.name;
    }
