use Rattle.std.proofs.Common.{◌≡◌, drop}
use Rattle.outlining.specs.StructCells as is
use Rattle.outlining.proofs.struct_cells.cells_of.Given as goal

abbrev pub invariant-loop-info : goal.invariant-loop-info
invariant-loop-info l = is.cells_after l.known.items (drop l.info-index l.structs) ≡ is.cells_of l.fn.structs
