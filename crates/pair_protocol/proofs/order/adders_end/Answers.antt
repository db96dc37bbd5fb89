use Rattle.pair_protocol.proofs.OrderAdderFacts.{adder_ends}
use Rattle.pair_protocol.proofs.order.adders_end.Goals as goal

pub returns : goal.returns
returns c = adder_ends
