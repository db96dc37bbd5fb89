use Rattle.pair_protocol.proofs.OrderLinkFacts.{links_are_whole}
use Rattle.pair_protocol.proofs.order.links_are_whole.Goals as goal

pub returns : goal.returns
returns c d = links_are_whole _ _ _ _ _ _
