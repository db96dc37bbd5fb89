use Rattle.part_views_law.proofs.CallsShown.{bodies_are_shown}
use Rattle.part_views_law.proofs.calls.bodies_are_shown.Goals as goal

pub returns : goal.returns
returns c = bodies_are_shown
