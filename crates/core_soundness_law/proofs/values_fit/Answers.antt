use Rattle.core_soundness_law.proofs.Settings.{values_fit}
use Rattle.core_soundness_law.proofs.values_fit.Goals as goal

pub returns : goal.returns
returns c = values_fit
