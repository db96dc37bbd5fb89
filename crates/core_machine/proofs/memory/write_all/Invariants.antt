use Rattle.std.proofs.Common.{◌≡◌, drop}
use Rattle.machine_memory.specs.Memory.{blocks_of, layouts_of}
use Rattle.pt_core.specs.Values.{all_written}
use Rattle.core_machine.specs.Live.{HasNoMore}
use Rattle.core_machine.proofs.memory.write_all.Given as goal

abbrev pub invariant-loop-c : goal.invariant-loop-c
invariant-loop-c l =
    (all_written (blocks_of l.memory) l.at.block l.cell (drop l.c-index l.cells) ≡ all_written (blocks_of l.fn.memory) l.fn.at.block l.fn.at.cell l.fn.cells)
    × (layouts_of l.memory ≡ layouts_of l.fn.memory) × HasNoMore (blocks_of l.fn.memory) (blocks_of l.memory)
