use Rattle.std.proofs.Common.{◌∙◌}
use Rattle.flow_picture.proofs.OrderLemmas.{span_cmps, span_total}
use Rattle.flow_picture.proofs.SearchLemmas.{found_by}
use Rattle.flow_picture.proofs.search.has_span.Goals as goal

pub returns : goal.returns
returns c =
    c.is_ok.ensures.value
    ∙ found_by span_total _ span_cmps c.args.spans.now c.args.span c.binary_search.result c.requires c.binary_search.ensures.bound c.binary_search.ensures.position
