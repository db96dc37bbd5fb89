use Rattle.std.proofs.Common.{◌≡◌, ◌+◌, drop}
use Rattle.sides.specs.LeafTables as is
use Rattle.sides.proofs.leaf_table.fields_count.Given as goal

abbrev pub invariant-loop-field : goal.invariant-loop-field
invariant-loop-field l = l.all + is.fields_count l.counts (drop l.field-index l.fields) ≡ is.fields_count l.fn.counts l.fn.fields
