use Rattle.std.proofs.Common.{◌≡◌, drop}
use Rattle.sides.specs.LeafTables as is
use Rattle.sides.proofs.leaf_table.counts_of.Given as goal

abbrev pub invariant-loop-info : goal.invariant-loop-info
invariant-loop-info l = is.counts_after l.counts.items (drop l.info-index l.structs) ≡ is.counts_of l.fn.structs
