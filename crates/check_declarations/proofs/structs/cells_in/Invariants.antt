use Rattle.std.proofs.Common.{◌≡◌, ◌≤◌, ◌+◌}
use Rattle.std.specs.Prelude.{sum_by}
use Rattle.check_declarations.specs.Cells as cells
use Rattle.check_declarations.proofs.structs.cells_in.Given as goal

abbrev pub invariant-loop-field : goal.invariant-loop-field
invariant-loop-field l = record {
  can : (goal.iterator-loop-field).can_next l.field-iterator;
  ends : (goal.iterator-loop-field).is_finite l.field-iterator;
  within : l.total ≤ 1048577;
  total : cells.counted (l.total + sum_by (λ f. cells.cells_of l.structs f.ty) l.field-iterator) ≡ cells.cells_in l.fn.structs l.fn.fields;
}
