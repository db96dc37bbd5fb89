use Rattle.part_views_law.proofs.CallsWhole.{calls_are_entered}
use Rattle.part_views_law.proofs.calls.calls_are_entered.Goals as goal

pub returns : goal.returns
returns g c = calls_are_entered
