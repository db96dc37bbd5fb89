use Rattle.std.proofs.Common.{drop}
use Rattle.wire.specs.Spelling.{cell_bytes}
use Rattle.wire.specs.Limits.{FitsCell}
use Rattle.wire.proofs.Put.{Putting}
use Rattle.wire.proofs.writing.put_cells.Given as goal

abbrev pub invariant-loop-cell : goal.invariant-loop-cell
invariant-loop-cell l = Putting cell_bytes FitsCell l.fn.cells (drop l.cell-index l.cells) l.fn.out.items l.out.items
