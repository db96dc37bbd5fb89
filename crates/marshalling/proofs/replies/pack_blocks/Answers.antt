use Rattle.std.proofs.Common.{ap, arith, length, refl, subst, sym}
use Rattle.block_memory.specs.declared.cell.BlockName.TheVariants.{Received}
use Rattle.machine_memory.specs.Memory.{blocks_of}
use Rattle.marshalling.specs.Ranges.{crossing_among}
use Rattle.marshalling.specs.Replies.{HoldNumbers, block_types}
use Rattle.marshalling.proofs.CopyLemmas.{few_cells}
use Rattle.marshalling.proofs.ReplyLemmas.{kept_block, sent_block, served_here}
use Rattle.marshalling.proofs.replies.pack_blocks.Goals as goal

pub pack_cells-requires-clause-few : goal.pack_cells-requires-clause-few
pack_cells-requires-clause-few c =
    let same = ap length c.as_slice.ensures in
    let few = few_cells c.args.blocks.now c.loop-k.k c.index-blocks-k.result c.requires.counts c.loop-k-test.true c.index-blocks-k.is in
    omega (arith, same, few)

pub pack_cells-requires-clause-served : goal.pack_cells-requires-clause-served
pack_cells-requires-clause-served c =
    let here = served_here (blocks_of c.args.memory.now) c.loop-k.k c.args.blocks.now c.index-blocks-k.result c.loop-k-test.true
    c.index-blocks-k.is c.loop-k.invariant.served in
    subst (λ b. HoldNumbers (block_types b) (blocks_of c.args.memory.now (Received c.loop-k.k)).cells) (sym c.as_slice.ensures) here.1

pub loop-k-preserved : goal.loop-k-preserved
loop-k-preserved c =
    let numbers = (blocks_of c.args.memory.now (Received c.loop-k.k)).cells in
    let here = served_here (blocks_of c.args.memory.now) c.loop-k.k c.args.blocks.now c.index-blocks-k.result c.loop-k-test.true
    c.index-blocks-k.is c.loop-k.invariant.served in
    let holds = subst (λ b. HoldNumbers (block_types b) numbers) (sym c.as_slice.ensures) here.1 in
    record {
      sent = sent_block (crossing_among c.args.ranges.now) (blocks_of c.args.memory.now) c.loop-k.k c.args.blocks.now c.index-blocks-k.result
          c.as_slice.result.now numbers c.loop-k.store _
          c.loop-k.cells.items _ _ c.loop-k-test.true c.index-blocks-k.is c.as_slice.ensures refl holds
          c.in_ok-pack_cells.ensures.sent c.in_ok-pack_cells.ensures.kept c.loop-k.invariant.sent;
      kept = kept_block (crossing_among c.args.ranges.now) (blocks_of c.args.memory.now) c.loop-k.k c.args.blocks.now c.index-blocks-k.result
          c.as_slice.result.now numbers c.loop-k.store _
          _ c.loop-k-test.true c.index-blocks-k.is c.as_slice.ensures refl holds c.in_ok-pack_cells.ensures.kept
          c.loop-k.invariant.kept;
      served = here.2;
    }
