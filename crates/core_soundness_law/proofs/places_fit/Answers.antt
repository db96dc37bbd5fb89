use Rattle.core_soundness_law.proofs.Settings.{places_fit}
use Rattle.core_soundness_law.proofs.places_fit.Goals as goal

pub returns : goal.returns
returns c = places_fit
