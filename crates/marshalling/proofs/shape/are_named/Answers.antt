use Rattle.marshalling.proofs.ShapeLemmas.{named_fails, named_goes}
use Rattle.marshalling.proofs.shape.are_named.Goals as goal

pub returns-then-not-is_named : goal.returns-then-not-is_named
returns-then-not-is_named c = named_fails c.args.args.now c.args.blocks.now c.loop-k.k c.is_named.result _ c.loop-k-test.true c.is_named.ensures
    c.if-not-is_named.true c.loop-k.invariant

pub loop-k-preserved : goal.loop-k-preserved
loop-k-preserved c = named_goes c.args.args.now c.args.blocks.now c.loop-k.k c.is_named.result _ c.loop-k-test.true c.is_named.ensures
    c.if-not-is_named.false c.loop-k.invariant
