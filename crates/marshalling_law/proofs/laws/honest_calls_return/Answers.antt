use Rattle.marshalling_law.proofs.HonestLemmas.{honest_calls_return}
use Rattle.marshalling_law.proofs.laws.honest_calls_return.Goals as goal

pub returns : goal.returns
returns c = honest_calls_return
