use Rattle.marshalling_law.proofs.CallsSendable.{sendable_by_fits}
use Rattle.marshalling_law.proofs.calls.sendable_by_fits.Goals as goal

pub returns : goal.returns
returns c = sendable_by_fits
