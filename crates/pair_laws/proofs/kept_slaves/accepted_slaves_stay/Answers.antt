use Rattle.pair_laws.proofs.KeptSlavesKept.{accepted_slaves_stay}
use Rattle.pair_laws.proofs.kept_slaves.accepted_slaves_stay.Goals as goal

pub returns : goal.returns
returns c = accepted_slaves_stay
