use Rattle.std.proofs.Common.{◌∙◌, sym}
use Rattle.flow_picture.proofs.ArrowLemmas.{way_on}
use Rattle.flow_picture.proofs.arrows.add_way.Goals as goal

pub returns-in_ok-add_arrow : goal.returns-in_ok-add_arrow
returns-in_ok-add_arrow c =
    way_on c.args.nodes.now c.args.shown.now c.args.steps.now c.args.edge c.arrow_of.result _ _ c.arrow_of.ensures (sym c.has_span.ensures ∙ c.if-has_span.true) c.in_ok-add_arrow.ensures
