use Rattle.std.proofs.Common.{◌∙◌}
use Rattle.flow_picture.proofs.OrderLemmas.{arrow_cmps, arrow_total}
use Rattle.flow_picture.proofs.SearchLemmas.{found_by}
use Rattle.flow_picture.proofs.search.has_arrow.Goals as goal

pub returns : goal.returns
returns c =
    c.is_ok.ensures.value
    ∙ found_by arrow_total _ arrow_cmps c.args.arrows.now c.args.arrow c.binary_search.result c.requires c.binary_search.ensures.bound c.binary_search.ensures.position
