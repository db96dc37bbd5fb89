use Rattle.std.proofs.Common.{◌++◌, subst}
use Rattle.pt_base.proofs.Places.{drop_step}
use Rattle.propagation.specs.Paths.{no_edge}
use Rattle.flow_picture.specs.declared.arrow.Arrow.{Arrow}
use Rattle.flow_picture.specs.Kept.{HasSame, drawn_arrows, edge_arrows}
use Rattle.flow_picture.proofs.SameLemmas.{flat_on, same_end}
use Rattle.flow_picture.proofs.arrows.arrows_in.Goals as goal

pub loop-edge-preserved : goal.loop-edge-preserved
loop-edge-preserved c =
    flat_on (edge_arrows c.args.nodes.now c.args.shown.now) _ _ _ _ _ _ (drop_step c.args.edges.now c.loop-edge.edge-index no_edge c.loop-edge-test.true)
    (subst (λ (a : Arrow). HasSame c.add_arrow.new.arrows.items (c.loop-edge.arrows.items ++ drawn_arrows c.args.shown.now a)) c.arrow_of.ensures c.in_ok-add_arrow.ensures) c.loop-edge.invariant

pub returns : goal.returns
returns c = same_end (edge_arrows c.args.nodes.now c.args.shown.now) c.args.edges.now c.loop-edge.edge-index _ _ c.loop-edge-test.false c.loop-edge.invariant
