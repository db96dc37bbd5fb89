use Rattle.lowering.proofs.PieceLemmas.{counted_is}
use Rattle.lowering.proofs.assignments.counted.Goals as goal

pub returns : goal.returns
returns c = λ o low h. counted_is _ o _ _ _ _ _ _ low _ h c.unit_step-step.ensures c.unit_of-unit.ensures (λ v k. c.compounded.ensures o _ low v h k)
