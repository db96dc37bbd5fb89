use Rattle.core_soundness_law.proofs.Outside.{received_fits}
use Rattle.core_soundness_law.proofs.received_fits.Goals as goal

pub returns : goal.returns
returns c = received_fits
