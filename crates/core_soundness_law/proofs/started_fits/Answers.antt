use Rattle.core_soundness_law.proofs.Starting.{started_fits}
use Rattle.core_soundness_law.proofs.started_fits.Goals as goal

pub returns : goal.returns
returns c = started_fits
