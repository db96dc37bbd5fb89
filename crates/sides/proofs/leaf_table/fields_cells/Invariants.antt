use Rattle.std.proofs.Common.{◌≡◌, ◌+◌, drop}
use Rattle.typed_tree.specs.Sizes as is
use Rattle.sides.proofs.leaf_table.fields_cells.Given as goal

abbrev pub invariant-loop-field : goal.invariant-loop-field
invariant-loop-field l = l.all + is.fields_cells l.sizes (drop l.field-index l.fields) ≡ is.fields_cells l.fn.sizes l.fn.fields
