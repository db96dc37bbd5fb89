use Rattle.part_views_law.proofs.CallsShown.{slaves_go_on}
use Rattle.part_views_law.proofs.calls.slaves_go_on.Goals as goal

pub returns : goal.returns
returns c = slaves_go_on
