use Rattle.std.proofs.Common.{◌≡◌, ◌++◌, drop, map}
use Rattle.std.specs.List.{zip}
use Rattle.machine_memory.specs.Memory.{blocks_of}
use Rattle.marshalling.specs.Packing.{packed_block, packed_typed}
use Rattle.marshalling.proofs.packing.typed_cells.Given as goal

-- the cells so far, and those that are left
abbrev pub invariant-loop-i : goal.invariant-loop-i
invariant-loop-i l = l.cells.items ++ map packed_typed (zip (drop l.i (blocks_of l.memory l.name).types) (drop l.i (blocks_of l.memory l.name).cells))
    ≡ packed_block (blocks_of l.memory l.name)
