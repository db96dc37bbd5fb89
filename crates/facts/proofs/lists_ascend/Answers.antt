use Rattle.facts.proofs.SortedLists.{lists_ascend}
use Rattle.facts.proofs.lists_ascend.Goals as goal

pub returns : goal.returns
returns g c = lists_ascend
