use Rattle.pair_invariant_law.specs.Slaves.{Stays}
use Rattle.pair_laws.proofs.PairStepsOrders.{honest_peers_are_expected}
use Rattle.pair_laws.proofs.pair_steps.honest_peers_are_expected.Goals as goal

pub returns : goal.returns
returns c = honest_peers_are_expected Stays
