use Rattle.std.proofs.Common.{◌≡◌, ◌+◌, drop}
use Rattle.typed_tree.specs.Sizes.{fields_cells}
use Rattle.core_code.proofs.struct_layout.cells_of_fields.Given as goal

abbrev pub invariant-loop-field : goal.invariant-loop-field
invariant-loop-field l = l.all + fields_cells l.sizes (drop l.field-index l.fields) ≡ fields_cells l.fn.sizes l.fn.fields
