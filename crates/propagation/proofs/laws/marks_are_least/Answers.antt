use Rattle.propagation.proofs.LawLemmas.{least}
use Rattle.propagation.proofs.laws.marks_are_least.Goals as goal

pub returns : goal.returns
returns c = least
