use Rattle.std.proofs.Common.{◌≡◌, drop}
use Rattle.outlining.specs.StructCells as is
use Rattle.outlining.proofs.struct_cells.fields_cells.Given as goal

abbrev pub invariant-loop-field : goal.invariant-loop-field
invariant-loop-field l = is.fields_after l.known l.all (drop l.field-index l.fields) ≡ is.fields_cells l.fn.known l.fn.fields
