use Rattle.std.proofs.Common.{◌≡◌, ◌++◌, drop}
use Rattle.sides.specs.Leaves as leaves
use Rattle.sides.specs.LeafTables as is
use Rattle.sides.proofs.leaf_table.field_starts.Given as goal

abbrev pub invariant-loop-field : goal.invariant-loop-field
invariant-loop-field l = l.starts.items ++ leaves.field_starts (is.type_count l.counts) l.next (drop l.field-index l.fields) ≡ leaves.field_starts (is.type_count l.fn.counts) 0 l.fn.fields
