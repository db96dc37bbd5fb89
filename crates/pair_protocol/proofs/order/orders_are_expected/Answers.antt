use Rattle.pair_protocol.proofs.OrderTheorems.{orders_are_expected}
use Rattle.pair_protocol.proofs.order.orders_are_expected.Goals as goal

pub returns : goal.returns
returns c d = orders_are_expected _ _ _ _ _ _
