use Rattle.pt_base.proofs.Places.{drop_step}
use Rattle.propagation.specs.Paths.{no_edge}
use Rattle.flow_picture.specs.Kept.{way_arrows}
use Rattle.flow_picture.proofs.SameLemmas.{flat_on, same_end}
use Rattle.flow_picture.proofs.arrows.ways_in.Goals as goal

pub loop-edge-preserved : goal.loop-edge-preserved
loop-edge-preserved c =
    flat_on (way_arrows c.args.nodes.now c.args.shown.now c.args.steps.now) _ _ _ _ _ _ (drop_step c.args.edges.now c.loop-edge.edge-index no_edge c.loop-edge-test.true) c.in_ok-add_way.ensures c.loop-edge.invariant

pub returns : goal.returns
returns c = same_end (way_arrows c.args.nodes.now c.args.shown.now c.args.steps.now) c.args.edges.now c.loop-edge.edge-index _ _ c.loop-edge-test.false c.loop-edge.invariant
