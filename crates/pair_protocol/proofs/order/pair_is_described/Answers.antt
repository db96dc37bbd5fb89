use Rattle.pair_protocol.proofs.OrderTheorems.{pair_is_described}
use Rattle.pair_protocol.proofs.order.pair_is_described.Goals as goal

pub returns : goal.returns
returns c d = pair_is_described _ _ _ _ _ _
