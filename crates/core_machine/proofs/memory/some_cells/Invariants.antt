use Rattle.std.proofs.Common.{◌≡◌, ◌++◌, drop, take}
use Rattle.machine_memory.specs.Memory.{blocks_of}
use Rattle.core_code.specs.Code.{cells_from}
use Rattle.core_machine.proofs.memory.some_cells.Given as goal

abbrev pub invariant-loop-left : goal.invariant-loop-left
invariant-loop-left l =
    l.cells.items ++ take l.left (drop l.at (blocks_of l.memory l.of.block).cells) ≡ cells_from (blocks_of l.fn.memory) l.fn.of l.fn.count

abbrev pub decreases-loop-left : goal.decreases-loop-left
decreases-loop-left l = l.left
