use Rattle.pair_invariant_law.specs.Slaves.{Stays}
use Rattle.pair_laws.proofs.PairCallsCalls.{calls_keep}
use Rattle.pair_laws.proofs.pair_calls.calls_keep.Goals as goal

pub returns : goal.returns
returns c = calls_keep Stays
