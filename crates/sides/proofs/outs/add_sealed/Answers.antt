use Rattle.pt_base.proofs.Places.{drop_step}
use Rattle.sides.specs.Outs.{behind_start}
use Rattle.reach.proofs.WalkLemmas.{item_on}
use Rattle.sides.proofs.outs.add_sealed.Goals as goal

pub loop-start-preserved : goal.loop-start-preserved
loop-start-preserved c = record {
  table = item_on (behind_start c.args.slots.now c.args.out) _ _ _ _ _ _ (drop_step c.args.starts.now c.loop-start.start-index 0 c.loop-start-test.true) c.in_ok-add_behind.ensures.table c.loop-start.invariant.table;
  seen = c.in_ok-add_behind.ensures.seen;
}
