use Rattle.pair_protocol.proofs.OrderTheorems.{honest_peers_are_expected}
use Rattle.pair_protocol.proofs.order.honest_peers_are_expected.Goals as goal

pub returns : goal.returns
returns c d = honest_peers_are_expected _ _ _ _ _ _
