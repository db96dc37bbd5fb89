use Rattle.pair_protocol.proofs.OrderTheorems.{parents_reach}
use Rattle.pair_protocol.proofs.order.parents_reach.Goals as goal

pub returns : goal.returns
returns c d = parents_reach _ _ _ _ _ _
