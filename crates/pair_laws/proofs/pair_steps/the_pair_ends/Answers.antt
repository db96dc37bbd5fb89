use Rattle.pair_invariant_law.specs.Slaves.{Stays}
use Rattle.pair_laws.proofs.PairStepsPair.{the_pair_ends}
use Rattle.pair_laws.proofs.pair_steps.the_pair_ends.Goals as goal

pub returns : goal.returns
returns c = the_pair_ends Stays
