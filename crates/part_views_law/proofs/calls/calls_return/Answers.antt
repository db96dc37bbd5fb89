use Rattle.part_views_law.proofs.CallsWhole.{calls_return}
use Rattle.part_views_law.proofs.calls.calls_return.Goals as goal

pub returns : goal.returns
returns g c = calls_return
