use Rattle.std.proofs.Common.{◌^◌}
use Rattle.pt_base.proofs.Numbers.{at_most_trans}
use Rattle.machine_memory.specs.Memory.{blocks_of}
use Rattle.marshalling.specs.Ranges.{crossing_among}
use Rattle.marshalling.specs.Replies.{next_after, result_places}
use Rattle.marshalling.specs.Plans.{part}
use Rattle.marshalling.proofs.ReturnLemmas.{listed_long, listed_taken, listed_within}
use Rattle.marshalling.proofs.TakingLemmas.{blocks_grow}
use Rattle.marshalling.proofs.taking.take_planned.Goals as goal

pub take_result-value-requires : goal.take_result-value-requires
take_result-value-requires c =
    let next = next_after c.args.names.now (result_places c.args.sig.now c.args.sig.now.result) in
    let grows = blocks_grow (crossing_among c.args.plan.now.ranges.items) 0 c.args.plan.now.targets.items
    (part c.args.reply.now.cells next (blocks_of c.args.memory.now)) in
    at_most_trans next _ (2 ^ 63) grows c.requires.room

pub take_blocks-requires : goal.take_blocks-requires
take_blocks-requires c =
    let plan = c.args.plan.now in
    let next = next_after c.args.names.now (result_places c.args.sig.now c.args.sig.now.result) in
    record {
      room = listed_within plan.ranges.items c.as_slice-ranges.result.now plan.targets.items c.as_slice.result.now c.args.reply.now.cells
          c.in_ok-blocks.blocks.items next c.take_result-value.new.names (2 ^ 63) (blocks_of c.args.memory.now) c.as_slice-ranges.ensures.value
          c.as_slice.ensures.value c.take_result-value.ensures.names c.in_ok-blocks.ensures c.requires.distinct c.requires.whole c.requires.room;
    }

pub returns-clause-ok : goal.returns-clause-ok
returns-clause-ok c =
    let plan = c.args.plan.now in
    let next = next_after c.args.names.now (result_places c.args.sig.now c.args.sig.now.result) in
    listed_taken plan.ranges.items c.as_slice-ranges.result.now plan.targets.items c.as_slice.result.now c.args.reply.now.cells
    c.as_slice-2.result.now c.in_ok-blocks.blocks.items c.take_blocks.new.blocks.items next c.take_result-value.new.names
    c.take_blocks.new.names (blocks_of c.args.memory.now) c.take_result-value.result _ c.as_slice-ranges.ensures.value
    c.as_slice.ensures.value c.as_slice-2.ensures c.take_result-value.ensures.names c.in_ok-blocks.ensures c.requires.distinct
    c.requires.whole c.take_blocks.ensures.taken c.take_result-value.ensures.value

pub returns-clause-long : goal.returns-clause-long
returns-clause-long c =
    let plan = c.args.plan.now in
    listed_long plan.ranges.items c.as_slice-ranges.result.now plan.targets.items c.as_slice.result.now c.in_ok-blocks.blocks.items
    c.take_blocks.new.blocks.items (blocks_of c.args.memory.now) c.as_slice-ranges.ensures.value c.as_slice.ensures.value c.in_ok-blocks.ensures
    c.requires.distinct c.requires.whole c.take_blocks.ensures.counts
