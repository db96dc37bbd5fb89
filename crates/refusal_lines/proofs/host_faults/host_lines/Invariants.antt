use Rattle.std.proofs.Common.{◌≡◌, ◌++◌, drop}
use Rattle.typed_tree.specs.TypedView.{view_typed}
use Rattle.refusal_lines.specs.HostLines.{host_lines}
use Rattle.refusal_lines.proofs.host_faults.host_lines.Given as goal

abbrev pub invariant-loop-fault : goal.invariant-loop-fault
invariant-loop-fault l = l.lines.items ++ host_lines (view_typed l.program) (drop l.fault-index l.faults) ≡ host_lines (view_typed l.program) l.fn.faults
