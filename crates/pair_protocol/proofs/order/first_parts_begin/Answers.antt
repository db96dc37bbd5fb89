use Rattle.pair_protocol.proofs.OrderTheorems.{first_parts_begin}
use Rattle.pair_protocol.proofs.order.first_parts_begin.Goals as goal

pub returns : goal.returns
returns c d = first_parts_begin _ _ _ _ _ _
