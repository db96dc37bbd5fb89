use Rattle.pair_laws.proofs.KeptSlavesKept.{reached_slaves_are_kept}
use Rattle.pair_laws.proofs.kept_slaves.reached_slaves_are_kept.Goals as goal

pub returns : goal.returns
returns c = reached_slaves_are_kept
