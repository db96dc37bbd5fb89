use Rattle.std.proofs.Common.{◌≡◌, ◌++◌, drop}
use Rattle.explaining.specs.Turns.{turns_from}
use Rattle.explaining.proofs.turns.turns_in.Given as goal

abbrev pub invariant-loop-fault : goal.invariant-loop-fault
invariant-loop-fault l = (l.turns.items ++ turns_from l.number (drop l.fault-index l.faults) ≡ turns_from 0 l.fn.faults) × (l.number ≡ l.fault-index)
