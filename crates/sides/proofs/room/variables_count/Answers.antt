use Rattle.std.proofs.Common.{ap, map}
use Rattle.pt_base.proofs.Places.{drop_step_at}
use Rattle.sides.specs.Leaves.{leaf_count}
use Rattle.sides.proofs.RoomLemmas.{count_on}
use Rattle.sides.proofs.room.variables_count.Goals as goal

pub loop-var-preserved : goal.loop-var-preserved
loop-var-preserved c =
    count_on (leaf_count c.args.structs.now) _ _ _ _ _ _ _ (ap (map (λ x. x.ty)) (drop_step_at c.args.vars.now c.loop-var.var-index c.var-item.result c.loop-var-test.true c.var-item.is))
    (c.count.ensures c.args.structs.now c.requires) c.in_ok-all.ensures c.loop-var.invariant
