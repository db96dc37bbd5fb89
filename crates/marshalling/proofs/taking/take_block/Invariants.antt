use Rattle.std.proofs.Common.{◌≡◌, List, drop, length}
use Rattle.pt_base.specs.declared.int_type.IntType.{IntType}
use Rattle.block_memory.specs.Blocks.{Blocks}
use Rattle.marshalling.specs.Ranges.{crossing_among}
use Rattle.marshalling.specs.Taking.{taken_cells}
use Rattle.marshalling.specs.Plans.{next_cells, part, with_block}
use Rattle.marshalling.proofs.taking.take_block.Given as goal

abbrev pub invariant-loop-i : goal.invariant-loop-i
invariant-loop-i l = record {
  part : (before : Blocks) (types : List IntType) → length types ≡ length l.fn.block.cells.items
      → taken_cells (crossing_among l.ranges) l.fn.block.name l.fn.block.number l.i (drop l.i types)
      (part (drop l.at l.sent) l.names (with_block before l.fn.block.name types l.block.cells.items))
      ≡ taken_cells (crossing_among l.ranges) l.fn.block.name l.fn.block.number 0 types
      (part (drop l.fn.start l.sent) l.fn.names (with_block before l.fn.block.name types l.fn.block.cells.items));
  next : l.names ≡ next_cells (crossing_among l.ranges l.fn.block.number) l.i l.fn.names;
  count : length l.block.cells.items ≡ length l.fn.block.cells.items;
  name : l.block.name ≡ l.fn.block.name;
}
