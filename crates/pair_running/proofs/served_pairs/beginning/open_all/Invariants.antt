use Rattle.sessions.specs.Hubs.{Hub}
use Rattle.sessions.specs.IsHub.{IsHub}
use Rattle.pair_running.specs.ServedPairsBeginning.{IsFresh}
use Rattle.pair_running.proofs.ServedPairsBeginning.{HasOpened}
use Rattle.pair_running.proofs.served_pairs.beginning.open_all.Given as goal

-- what was opened leads from the first hub here
abbrev pub invariant-loop-input : goal.invariant-loop-input
invariant-loop-input l = (first : Hub) → IsHub l.fn.hub first → IsFresh first → HasOpened l.hub first l.input-index l.all
