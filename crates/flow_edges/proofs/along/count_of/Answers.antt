use Rattle.pt_base.proofs.Places.{drop_step_at}
use Rattle.flow_edges.proofs.MovedLemmas.{moved_count}
use Rattle.flow_edges.proofs.along.count_of.Goals as goal

pub loop-moving-preserved : goal.loop-moving-preserved
loop-moving-preserved c =
    moved_count _ _ c.moving-item.result _ _ _ _ (drop_step_at c.args.moves.now c.loop-moving.moving-index c.moving-item.result c.loop-moving-test.true c.moving-item.is)
    c.in_ok-count.ensures c.in_ok-all.ensures c.loop-moving.invariant
