use Rattle.std.proofs.Common.{drop}
use Rattle.wire.specs.Spelling.{typed_cell_bytes}
use Rattle.wire.specs.Limits.{FitsTypedCell}
use Rattle.wire.proofs.Put.{Putting}
use Rattle.wire.proofs.writing.put_typed_cells.Given as goal

abbrev pub invariant-loop-typed : goal.invariant-loop-typed
invariant-loop-typed l = Putting typed_cell_bytes FitsTypedCell l.fn.cells (drop l.typed-index l.cells) l.fn.out.items l.out.items
