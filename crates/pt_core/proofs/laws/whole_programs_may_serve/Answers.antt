use Rattle.pt_core.proofs.ServingLemmas.{whole_may_serve}
use Rattle.pt_core.proofs.laws.whole_programs_may_serve.Goals as goal

pub returns : goal.returns
returns c = whole_may_serve
