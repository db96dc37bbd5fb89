use Rattle.core_soundness_law.proofs.Outside.{filled_fits}
use Rattle.core_soundness_law.proofs.filled_fits.Goals as goal

pub returns : goal.returns
returns c = filled_fits
