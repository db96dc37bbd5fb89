use Rattle.std.proofs.Common.{◌<◌, arith, get_or, length, pos}
use Rattle.pt_base.specs.declared.int_type.IntType.TheVariants.{Char}
use Rattle.block_memory.specs.declared.cell.BlockName.TheVariants.{Received}
use Rattle.machine_memory.specs.Memory.{blocks_of}
use Rattle.wire.specs.declared.cell.WireCell.TheVariants.{Number}
use Rattle.marshalling.specs.Ranges.{crossing_among}
use Rattle.marshalling.proofs.CopyLemmas.{read_at}
use Rattle.marshalling.proofs.Lists.{self_read}
use Rattle.marshalling.proofs.ReplyLemmas.{holds_at, holds_count, kept_more, sent_more}
use Rattle.marshalling.proofs.replies.add_cells.Goals as goal

pub add_cell-requires : goal.add_cell-requires
add_cell-requires c =
    let numbers = (blocks_of c.args.memory.now (Received c.args.k)).cells in
    let count = holds_count c.args.block.now numbers c.requires.served in
    let within : c.loop-i.i < length numbers = omega (arith, count) in
    holds_at c.args.block.now numbers c.loop-i.i (get_or c.args.block.now c.loop-i.i (Char, Number (pos 0))) c.cell.result
    c.requires.served c.loop-i-test.true
    (self_read c.args.block.now c.loop-i.i (Char, Number (pos 0)) c.loop-i-test.true)
    (read_at numbers c.loop-i.i c.cell.result within c.cell.ensures)

pub loop-i-preserved : goal.loop-i-preserved
loop-i-preserved c =
    let numbers = (blocks_of c.args.memory.now (Received c.args.k)).cells in
    let typed = get_or c.args.block.now c.loop-i.i (Char, Number (pos 0)) in
    let read = self_read c.args.block.now c.loop-i.i (Char, Number (pos 0)) c.loop-i-test.true in
    let count = holds_count c.args.block.now numbers c.requires.served in
    let within : c.loop-i.i < length numbers = omega (arith, count) in
    let told = read_at numbers c.loop-i.i c.cell.result within c.cell.ensures in
    record {
      sent = sent_more (crossing_among c.args.ranges.now) c.crossing_at-crossing.result c.args.k c.loop-i.i c.args.block.now
          numbers typed c.cell.result c.loop-i.store _
          c.loop-i.cells.items _ _ c.loop-i-test.true within read told c.crossing_at-crossing.ensures c.in_ok-add_cell.ensures.sent
          c.in_ok-add_cell.ensures.kept c.loop-i.invariant.sent;
      kept = kept_more (crossing_among c.args.ranges.now) c.crossing_at-crossing.result c.args.k c.loop-i.i c.args.block.now
          numbers typed c.cell.result c.loop-i.store _
          _ c.loop-i-test.true within read told c.crossing_at-crossing.ensures c.in_ok-add_cell.ensures.kept c.loop-i.invariant.kept;
    }
