use Rattle.pair_protocol.proofs.OrderTheorems.{every_order_ends}
use Rattle.pair_protocol.proofs.order.every_order_ends.Goals as goal

pub returns : goal.returns
returns c d = every_order_ends _ _ _ _ _ _
