use Rattle.std.proofs.Common.{◌≡◌, ◌++◌, drop, length}
use Rattle.machine_memory.specs.Memory.{blocks_of}
use Rattle.marshalling.specs.Ranges.{crossing_among}
use Rattle.marshalling.specs.Replies.{AreServed, kept, places_of, received, sent, types_of}
use Rattle.marshalling.proofs.ReplyLemmas.{rest_blocks, rest_numbers}
use Rattle.marshalling.proofs.replies.pack_blocks.Given as goal

-- what was sent and kept so far, and what is of the blocks that are left
abbrev pub invariant-loop-k : goal.invariant-loop-k
invariant-loop-k l = record {
  sent : l.cells.items ++ sent (length l.store) (rest_blocks (crossing_among l.ranges) l.k l.blocks) (rest_numbers (blocks_of l.memory) l.k l.blocks)
      ≡ l.fn.cells.items ++ sent (length l.fn.store) (places_of (crossing_among l.ranges) 0 (types_of l.blocks))
      (received (blocks_of l.memory) 0 (types_of l.blocks));
  kept : l.store ++ kept (rest_blocks (crossing_among l.ranges) l.k l.blocks) (rest_numbers (blocks_of l.memory) l.k l.blocks)
      ≡ l.fn.store ++ kept (places_of (crossing_among l.ranges) 0 (types_of l.blocks)) (received (blocks_of l.memory) 0 (types_of l.blocks));
  served : AreServed (blocks_of l.memory) l.k (types_of (drop l.k l.blocks));
}
