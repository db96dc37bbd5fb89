use Rattle.std.proofs.Common.{◌≡◌, ◌+◌, ◌++◌, drop}
use Rattle.machine_memory.specs.Words.{numbers}
use Rattle.machine_memory.proofs.packing.unpacked.Given as goal

abbrev pub invariant-loop-i : goal.invariant-loop-i
invariant-loop-i l = l.cells.items ++ numbers (drop l.i l.types) l.words (l.at + l.i) ≡ numbers l.fn.types l.words l.at
