use Rattle.std.proofs.Common.{ap, map}
use Rattle.pt_base.proofs.Places.{drop_step_at}
use Rattle.sides.specs.Leaves.{leaf_count}
use Rattle.sides.proofs.RoomLemmas.{count_on}
use Rattle.sides.proofs.room.globals_count.Goals as goal

pub loop-global-preserved : goal.loop-global-preserved
loop-global-preserved c =
    count_on (leaf_count c.args.structs.now) _ _ _ _ _ _ _ (ap (map (λ g. g.var.ty)) (drop_step_at c.args.globals.now c.loop-global.global-index c.global-item.result c.loop-global-test.true c.global-item.is))
    (c.count.ensures c.args.structs.now c.requires) c.in_ok-all.ensures c.loop-global.invariant
