use Rattle.core_soundness_law.proofs.Outside.{budgeted_fits}
use Rattle.core_soundness_law.proofs.budgeted_fits.Goals as goal

pub returns : goal.returns
returns c = budgeted_fits
