use Rattle.part_views_law.proofs.StepsAdded.{added_compute_alike}
use Rattle.part_views_law.proofs.steps.added_compute_alike.Goals as goal

pub returns : goal.returns
returns g c = added_compute_alike
