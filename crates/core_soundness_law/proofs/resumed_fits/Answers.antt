use Rattle.core_soundness_law.proofs.Outside.{resumed_fits}
use Rattle.core_soundness_law.proofs.resumed_fits.Goals as goal

pub returns : goal.returns
returns c = resumed_fits
