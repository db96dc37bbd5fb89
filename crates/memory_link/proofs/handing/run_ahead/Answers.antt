use Rattle.memory_link.proofs.Steps.{begins, runs_on}
use Rattle.memory_link.proofs.handing.run_ahead.Goals as goal

pub returns-then-not-moves_alone : goal.returns-then-not-moves_alone
returns-then-not-moves_alone g c = begins _ _ _

pub returns : goal.returns
returns g c = runs_on _ _ _ _ _ _ (c.moves_alone.ensures c.if-not-moves_alone.false) c.in_ok-made.ensures c.ask.ensures
