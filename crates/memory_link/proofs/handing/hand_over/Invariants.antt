use Rattle.memory_link.specs.Onward.{Onward}
use Rattle.memory_link.proofs.handing.hand_over.Given as goal

abbrev pub invariant-loop-step : goal.invariant-loop-step
invariant-loop-step g l = Onward l.fn.window l.fn.half l.half (g.C.Chooser.answers l.fn.chooser) (g.C.Chooser.answers l.chooser)
