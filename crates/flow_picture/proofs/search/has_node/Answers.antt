use Rattle.std.proofs.Common.{◌∙◌}
use Rattle.flow_picture.proofs.OrderLemmas.{node_cmps, node_total}
use Rattle.flow_picture.proofs.SearchLemmas.{found_by}
use Rattle.flow_picture.proofs.search.has_node.Goals as goal

pub returns : goal.returns
returns c =
    c.is_ok.ensures.value
    ∙ found_by node_total _ node_cmps c.args.nodes.now c.args.node c.binary_search.result c.requires c.binary_search.ensures.bound c.binary_search.ensures.position
