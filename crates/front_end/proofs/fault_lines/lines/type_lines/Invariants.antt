use Rattle.std.proofs.Common.{◌≡◌, ◌++◌, drop}
use Rattle.front_end.specs.FaultLines.{type_lines}
use Rattle.front_end.proofs.fault_lines.lines.type_lines.Given as goal

abbrev pub invariant-loop-fault : goal.invariant-loop-fault
invariant-loop-fault l = l.lines.items ++ type_lines (drop l.fault-index l.faults) ≡ type_lines l.fn.faults
