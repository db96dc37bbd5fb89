use Rattle.core_soundness_law.proofs.Shapes.{received_stay}
use Rattle.core_soundness_law.proofs.received_stay.Goals as goal

pub returns : goal.returns
returns g c = received_stay
