use Rattle.std.proofs.Common.{◌^◌}
use Rattle.pt_base.proofs.Numbers.{at_most_trans}
use Rattle.machine_memory.specs.Memory.{blocks_of}
use Rattle.marshalling.specs.Ranges.{crossing_among}
use Rattle.marshalling.specs.Replies.{next_after, result_places}
use Rattle.marshalling.specs.Plans.{part}
use Rattle.marshalling.proofs.TakingLemmas.{blocks_grow}
use Rattle.marshalling.proofs.taking.take_fitting.Goals as goal

pub planned_fits-requires : goal.planned_fits-requires
planned_fits-requires c =
    let next = next_after c.args.names.now (result_places c.args.sig.now c.args.sig.now.result) in
    let grows = blocks_grow (crossing_among c.args.plan.now.ranges.items) 0 c.args.plan.now.targets.items
    (part c.args.reply.now.cells next (blocks_of c.args.memory.now)) in
    rw c.count.ensures (at_most_trans next _ (2 ^ 63) grows c.requires.room)
