use Rattle.pair_invariant_law.specs.Slaves.{Stays}
use Rattle.pair_laws.proofs.PairStepsOrders.{the_pair_is_expected}
use Rattle.pair_laws.proofs.pair_steps.the_pair_is_expected.Goals as goal

pub returns : goal.returns
returns c = the_pair_is_expected Stays
