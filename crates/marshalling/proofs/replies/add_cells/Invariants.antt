use Rattle.std.proofs.Common.{◌≡◌, ◌++◌, drop, length, map}
use Rattle.block_memory.specs.declared.cell.BlockName.TheVariants.{Received}
use Rattle.machine_memory.specs.Memory.{blocks_of}
use Rattle.marshalling.specs.Ranges.{crossing_among}
use Rattle.marshalling.specs.Replies.{block_types, kept, number_in, places_from, sent}
use Rattle.marshalling.proofs.ReplyLemmas.{rest_places}
use Rattle.marshalling.proofs.replies.add_cells.Given as goal

-- what was sent and kept so far, and what is of the cells that are left
abbrev pub invariant-loop-i : goal.invariant-loop-i
invariant-loop-i l = record {
  sent : l.cells.items ++ sent (length l.store) (rest_places (crossing_among l.ranges) l.k l.i l.block) (map number_in (drop l.i (blocks_of l.memory (Received l.k)).cells))
      ≡ l.fn.cells.items ++ sent (length l.fn.store) (places_from (crossing_among l.ranges) l.k 0 (block_types l.block)) (map number_in (blocks_of l.memory (Received l.k)).cells);
  kept : l.store ++ kept (rest_places (crossing_among l.ranges) l.k l.i l.block) (map number_in (drop l.i (blocks_of l.memory (Received l.k)).cells))
      ≡ l.fn.store ++ kept (places_from (crossing_among l.ranges) l.k 0 (block_types l.block)) (map number_in (blocks_of l.memory (Received l.k)).cells);
}
