use Rattle.pair_invariant_law.specs.Slaves.{Stays}
use Rattle.pair_laws.proofs.PairStepsLive.{steps_keep}
use Rattle.pair_laws.proofs.pair_steps.steps_keep.Goals as goal

pub returns : goal.returns
returns c = steps_keep Stays
