use Rattle.propagation.proofs.LawLemmas.{more}
use Rattle.propagation.proofs.laws.more_marks_more.Goals as goal

pub returns : goal.returns
returns c = more
