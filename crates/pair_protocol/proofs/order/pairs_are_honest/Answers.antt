use Rattle.pair_protocol.proofs.OrderTheorems.{pairs_are_honest}
use Rattle.pair_protocol.proofs.order.pairs_are_honest.Goals as goal

pub returns : goal.returns
returns c d = pairs_are_honest _ _ _ _ _ _
