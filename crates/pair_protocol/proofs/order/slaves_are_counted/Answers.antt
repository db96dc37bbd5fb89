use Rattle.pair_protocol.proofs.OrderTheorems.{slaves_are_counted}
use Rattle.pair_protocol.proofs.order.slaves_are_counted.Goals as goal

pub returns : goal.returns
returns c d = slaves_are_counted _ _ _ _ _ _
