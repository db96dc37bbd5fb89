use Rattle.std.proofs.Common.{◌≡◌, ◌≤◌, ◌+◌, drop}
use Rattle.std.specs.Prelude.{sum_by}
use Rattle.boot_rules.specs.Shapes.{counted, object_cells, fields_cells}
use Rattle.boot_rules.proofs.shapes.cells_of_fields.Given as goal

abbrev pub invariant-loop-field : goal.invariant-loop-field
invariant-loop-field l = record {
  within : l.cells ≤ 65537;
  total : counted (l.cells + sum_by (λ f. object_cells l.shapes f.ty) (drop l.field-index l.fields)) ≡ fields_cells l.fn.shapes l.fn.fields;
}
