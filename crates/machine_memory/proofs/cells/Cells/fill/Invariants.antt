use Rattle.std.proofs.Common.{◌≡◌, ◌++◌, drop, replicate}
use Rattle.machine_memory.proofs.cells.Cells.fill.Given as goal

abbrev pub invariant-loop-at : goal.invariant-loop-at
invariant-loop-at l = l.self-inside.cells.items ≡ replicate l.at l.value ++ drop l.at l.fn.self
