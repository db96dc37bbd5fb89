use Rattle.std.proofs.Common.{ap}
use Rattle.pt_core.specs.CodeTree.{assign, view_expr}
use Rattle.lowering.proofs.OutputLemmas.{same_stmt}
use Rattle.lowering.proofs.PieceLemmas.{given_is}
use Rattle.lowering.proofs.assignments.given.Goals as goal

pub returns : goal.returns
returns c = λ o o1 low v h i. given_is o o1 _ _ low v _ _ h i (same_stmt _ _ _ _ (ap (λ p. assign p (view_expr c.args.value)) c.in_ok-copy.ensures) c.in_ok-add.ensures)
