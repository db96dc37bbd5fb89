use Rattle.core_machine.proofs.ProgramCounterLemmas.{Passed}
use Rattle.core_machine.proofs.memory.pass_over.Given as goal

abbrev pub invariant-loop-var : goal.invariant-loop-var
invariant-loop-var l = Passed l.fn.memory l.memory l.fn.here.depth l.fn.here.layout l.fn.depth l.fn.layout l.fn.places l.var
