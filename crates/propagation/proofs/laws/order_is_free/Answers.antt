use Rattle.propagation.proofs.LawLemmas.{free}
use Rattle.propagation.proofs.laws.order_is_free.Goals as goal

pub returns : goal.returns
returns c = free
