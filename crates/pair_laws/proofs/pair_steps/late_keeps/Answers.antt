use Rattle.pair_invariant_law.specs.Slaves.{Stays}
use Rattle.pair_laws.proofs.PairStepsLate.{late_keeps}
use Rattle.pair_laws.proofs.pair_steps.late_keeps.Goals as goal

pub returns : goal.returns
returns c = late_keeps Stays
