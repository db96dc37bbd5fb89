use Rattle.std.proofs.Common.{◌≡◌, ◌++◌, drop, map}
use Rattle.marshalling.specs.Handles.{block_fault, unpacked_cell}
use Rattle.marshalling.proofs.unpacking.open_block.Given as goal

abbrev pub invariant-loop-cell : goal.invariant-loop-cell
invariant-loop-cell l = record {
  values : l.cells.items ++ map (unpacked_cell l.store) (drop l.cell-index l.block) ≡ map (unpacked_cell l.store) l.block;
  fault : block_fault l.store (drop l.cell-index l.block) ≡ block_fault l.store l.block;
}
