use Rattle.std.proofs.Common.{◌≡◌, drop, length, map, take}
use Rattle.block_memory.specs.Blocks.{Blocks}
use Rattle.marshalling.specs.Ranges.{crossing_among}
use Rattle.marshalling.specs.Plans.{AreCopies, next_listed, part, taken_listed}
use Rattle.marshalling.specs.Returns.{counted}
use Rattle.marshalling.proofs.ReturnLemmas.{IsMidway}
use Rattle.marshalling.proofs.taking.take_blocks.Given as goal

abbrev pub invariant-loop-j : goal.invariant-loop-j
invariant-loop-j l = record {
  midway : (before : Blocks) → AreCopies before l.fn.blocks.items
      → IsMidway (crossing_among l.ranges) (drop l.j l.fn.blocks.items) (take l.j l.blocks.items) (drop l.at l.sent) l.names before
      (taken_listed (crossing_among l.ranges) l.fn.blocks.items (part l.sent l.fn.names before));
  next : next_listed (crossing_among l.ranges) (drop l.j l.fn.blocks.items) l.names ≡ next_listed (crossing_among l.ranges) l.fn.blocks.items l.fn.names;
  left : drop l.j l.blocks.items ≡ drop l.j l.fn.blocks.items;
  counts : map counted l.blocks.items ≡ map counted l.fn.blocks.items;
  count : length l.blocks.items ≡ length l.fn.blocks.items;
}
