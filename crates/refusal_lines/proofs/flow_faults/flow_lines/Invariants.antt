use Rattle.std.proofs.Common.{◌≡◌, ◌++◌, drop}
use Rattle.refusal_lines.specs.FlowLines.{flow_lines}
use Rattle.refusal_lines.proofs.flow_faults.flow_lines.Given as goal

abbrev pub invariant-loop-fault : goal.invariant-loop-fault
invariant-loop-fault l = l.lines.items ++ flow_lines (drop l.fault-index l.faults) ≡ flow_lines l.fn.faults
