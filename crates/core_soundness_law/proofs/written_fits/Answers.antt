use Rattle.core_soundness_law.proofs.Outside.{written_fits}
use Rattle.core_soundness_law.proofs.written_fits.Goals as goal

pub returns : goal.returns
returns c = written_fits
