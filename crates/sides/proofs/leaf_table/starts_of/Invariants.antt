use Rattle.std.proofs.Common.{◌≡◌, ◌++◌, drop, map}
use Rattle.sides.specs.Leaves as leaves
use Rattle.sides.specs.LeafTables as is
use Rattle.sides.proofs.leaf_table.starts_of.Given as goal

abbrev pub invariant-loop-info : goal.invariant-loop-info
invariant-loop-info l =
    l.starts.items ++ map (λ s. leaves.field_starts (is.type_count l.counts) 0 s.fields) (drop l.info-index l.structs)
    ≡ map (λ s. leaves.field_starts (is.type_count l.fn.counts) 0 s.fields) l.fn.structs
