use Rattle.std.proofs.Common.{◌≡◌, length, take}
use Rattle.machine_memory.specs.Words.{numbers}
use Rattle.machine_memory.proofs.packing.packed.Given as goal

abbrev pub invariant-loop-i : goal.invariant-loop-i
invariant-loop-i l = record {
  long : length l.words.items ≡ l.i;
  same : numbers (take l.i l.types) l.words.items 0 ≡ take l.i l.cells;
}
