use Rattle.pair_protocol.proofs.OrderTheorems.{first_parts_agree}
use Rattle.pair_protocol.proofs.order.first_parts_agree.Goals as goal

pub returns : goal.returns
returns c d = first_parts_agree _ _ _ _ _ _
