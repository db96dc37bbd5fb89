use Rattle.sides.specs.Outs.{is_back}
use Rattle.reach.proofs.WalkLemmas.{leaf_on}
use Rattle.sides.proofs.outs.add_all.Goals as goal

pub loop-leaf-preserved : goal.loop-leaf-preserved
loop-leaf-preserved c = leaf_on (is_back c.args.out.all c.args.out.first c.args.slots.now) c.args.start _ c.args.out.count _ _ _ c.loop-leaf-test.true c.in_ok-add_leaf.ensures c.loop-leaf.invariant
