use Rattle.lowering.proofs.OutputLemmas.{same_temp}
use Rattle.lowering.proofs.PieceLemmas.{call_held}
use Rattle.lowering.proofs.assignments.called_for.Goals as goal

pub returns : goal.returns
returns c = λ o e a h g.
    rw c.temp.ensures (call_held o _ _ _ _ _ _ e a _ _ g h c.in_ok-k.ensures.number (same_temp _ _ _ _ c.holding.ensures c.in_ok-k.ensures.output) c.in_ok-add.ensures)
