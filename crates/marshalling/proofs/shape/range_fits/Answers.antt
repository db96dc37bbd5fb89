use Rattle.marshalling.proofs.ShapeLemmas.{range_ends, range_fails, range_goes}
use Rattle.marshalling.proofs.shape.range_fits.Goals as goal

pub returns-then-rest-leaves : goal.returns-then-rest-leaves
returns-then-rest-leaves c = range_ends c.args.marked c.args.leaves.now c.args.count c.loop.counter c.loop.rest.now _ c.loop-test.true
    c.if-rest-leaves.true c.loop.invariant

pub returns-then-not-element_fits : goal.returns-then-not-element_fits
returns-then-not-element_fits c =
    range_fails c.args.marked c.args.leaves.now c.args.count c.loop.counter c.loop.rest.now c.split_at.result.0.now c.split_at.result.1.now
    c.element_fits.result _ c.loop-test.true c.if-rest-leaves.false
    c.split_at.ensures.front c.split_at.ensures.back c.element_fits.ensures c.if-not-element_fits.true c.loop.invariant

pub loop-preserved : goal.loop-preserved
loop-preserved c =
    range_goes c.args.marked c.args.leaves.now c.args.count c.loop.counter c.loop.rest.now c.split_at.result.0.now c.split_at.result.1.now
    c.element_fits.result _ c.loop-test.true c.if-rest-leaves.false
    c.split_at.ensures.front c.split_at.ensures.back c.element_fits.ensures c.if-not-element_fits.false c.loop.invariant
