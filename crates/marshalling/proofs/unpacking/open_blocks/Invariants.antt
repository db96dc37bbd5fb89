use Rattle.std.proofs.Common.{◌≡◌, ◌++◌, drop, map}
use Rattle.marshalling.specs.Handles.{blocks_fault, unpacked_cell}
use Rattle.marshalling.proofs.unpacking.open_blocks.Given as goal

abbrev pub invariant-loop-block : goal.invariant-loop-block
invariant-loop-block l = record {
  values : l.opened.items ++ map (map (unpacked_cell l.store)) (drop l.block-index l.blocks) ≡ map (map (unpacked_cell l.store)) l.blocks;
  fault : blocks_fault l.store (drop l.block-index l.blocks) ≡ blocks_fault l.store l.blocks;
}
