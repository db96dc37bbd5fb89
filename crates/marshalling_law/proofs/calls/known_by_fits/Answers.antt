use Rattle.marshalling_law.proofs.CallsSendable.{known_by_fits}
use Rattle.marshalling_law.proofs.calls.known_by_fits.Goals as goal

pub returns : goal.returns
returns c = known_by_fits
