use Rattle.std.proofs.Common.{◌++◌, drop, take}
use Rattle.block_memory.specs.Frames.{local_at, SetsLocal}
use Rattle.block_memory.proofs.frames.Frames.put.Given as goal

abbrev pub invariant-loop-i : goal.invariant-loop-i
invariant-loop-i l =
    let block = local_at l.fn.self l.depth l.var in
    SetsLocal l.fn.self l.self l.depth l.var (record { types = block.types; cells = take l.i l.cells ++ drop l.i block.cells })
