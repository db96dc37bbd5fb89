use Rattle.std.proofs.Common.{◌≡◌, ◌++◌, drop, map}
use Rattle.machine_memory.specs.Memory.{blocks_of}
use Rattle.marshalling.specs.Returns.{copied, is_ranged, seen}
use Rattle.marshalling.proofs.copies.copies.Given as goal

-- the blocks so far, and those that are left
abbrev pub invariant-loop-number : goal.invariant-loop-number
invariant-loop-number l = map seen l.blocks.items ++ copied (is_ranged l.ranges) (blocks_of l.memory) l.number (drop l.number l.targets)
    ≡ copied (is_ranged l.ranges) (blocks_of l.memory) 0 l.targets
