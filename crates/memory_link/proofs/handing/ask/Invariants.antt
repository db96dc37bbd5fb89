use Rattle.memory_link.specs.Onward.{Asked}
use Rattle.memory_link.proofs.handing.ask.Given as goal

abbrev pub invariant-loop-asked : goal.invariant-loop-asked
invariant-loop-asked g l = Asked l._asked (g.C.Chooser.answers l.fn.chooser) (g.C.Chooser.answers l.chooser)
