use Rattle.core_soundness_law.proofs.Resting.{rest_fits}
use Rattle.core_soundness_law.proofs.rest_fits.Goals as goal

pub returns : goal.returns
returns c = rest_fits
