use Rattle.lowering.proofs.OutputLemmas.{also}
use Rattle.lowering.proofs.PieceLemmas.{call_is}
use Rattle.lowering.proofs.assignments.call_alone.Goals as goal

pub returns : goal.returns
returns c = λ o a g. also _ _ _ (λ e. call_is o _ _ _ _ a _ g e) c.add.ensures
