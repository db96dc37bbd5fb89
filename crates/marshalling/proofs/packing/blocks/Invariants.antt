use Rattle.std.proofs.Common.{◌≡◌, map, take}
use Rattle.machine_memory.specs.Memory.{blocks_of}
use Rattle.marshalling.specs.Packing.{packed_block}
use Rattle.marshalling.proofs.packing.blocks.Given as goal

abbrev pub invariant-loop-name : goal.invariant-loop-name
invariant-loop-name l = l.blocks.items ≡ map (λ name. packed_block (blocks_of l.memory name)) (take l.name-index l.names)
