use Rattle.std.proofs.Common.{List}
use Rattle.pair_meaning.specs.Monitors.{Monitor}
use Rattle.pair_meaning.specs.SlaveRun.{Slave}
use Rattle.sessions.specs.Hubs.{Hub}
use Rattle.pair_running.specs.ServedPairsTurns.{AllBegin, HaveGone, Pair, StandAt}
use Rattle.pair_running.proofs.served_pairs.turning.turns.Given as goal

-- the talks stand somewhere, and where they began, turns under the answers that were taken led there
abbrev pub invariant-loop-turn : goal.invariant-loop-turn
invariant-loop-turn g l = record {
  stand : (h : Hub) × (bs : List Pair) × StandAt l.hub h l.talks.items bs l.running;
  gone : (starts : List (Slave × Monitor)) → AllBegin l.fn.hub starts l.fn.talks.items → HaveGone l.hub l.talks.items l.running starts (g.C.Chooser.answers l.fn.chooser) (g.C.Chooser.answers l.chooser);
}
