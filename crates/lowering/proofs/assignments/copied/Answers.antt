use Rattle.std.proofs.Common.{ap}
use Rattle.pt_core.specs.CodeTree.{copy, view_place}
use Rattle.lowering.proofs.OutputLemmas.{same_stmt}
use Rattle.lowering.proofs.PieceLemmas.{copied_is}
use Rattle.lowering.proofs.assignments.copied.Goals as goal

pub returns : goal.returns
returns c = λ o o1 low from h i. copied_is o o1 _ _ low from _ _ h i (same_stmt _ _ _ _ (ap (λ p. copy p (view_place c.args.of.place)) c.in_ok-copy.ensures) c.in_ok-add.ensures)
