use Rattle.std.proofs.Common.{◌≡◌, ◌+◌, ◌++◌, ◌≤◌, drop, length, map}
use Rattle.block_memory.specs.Block.{Block}
use Rattle.machine_memory.specs.Layouts.{integers, pointers}
use Rattle.machine_memory.specs.Words.{local_blocks}
use Rattle.machine_memory.proofs.write.cells_of.Given as goal

abbrev pub invariant-loop-shape : goal.invariant-loop-shape
invariant-loop-shape l =
    let rest = drop l.shape-index l.shapes in
    record {
      same : l.cells.items ++ map (λ (b : Block). b.cells) (local_blocks rest l.integer l.pointer l.words l.entries) ≡ map (λ (b : Block). b.cells) (local_blocks l.fn.shapes 0 0 l.words l.entries);
      words : l.integer + integers rest ≤ length l.words;
      entries : l.pointer + pointers rest ≤ length l.entries;
    }
