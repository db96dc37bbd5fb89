use Rattle.std.proofs.Common.{◌≡◌, take}
use Rattle.machine_memory.specs.Memory.{blocks_of}
use Rattle.marshalling.proofs.copies.cells_of.Given as goal

abbrev pub invariant-loop-i : goal.invariant-loop-i
invariant-loop-i l = l.cells.items ≡ take l.i (blocks_of l.memory l.name).cells
