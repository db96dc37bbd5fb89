use Rattle.pair_invariant_law.specs.Slaves.{Stays}
use Rattle.pair_laws.proofs.PairStepsPair.{the_pair_keeps}
use Rattle.pair_laws.proofs.pair_steps.the_pair_keeps.Goals as goal

pub returns : goal.returns
returns c = the_pair_keeps Stays
