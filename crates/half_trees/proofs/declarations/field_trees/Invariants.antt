use Rattle.std.proofs.Common.{◌≡◌, ◌++◌, drop, map}
use Rattle.pt_tree.specs.SpecifierTree.{view_field}
use Rattle.half_trees.specs.Declarations.{fields_from}
use Rattle.half_trees.proofs.declarations.field_trees.Given as goal

-- the fields so far, and then the others, are all of them
abbrev pub invariant-loop-k : goal.invariant-loop-k
invariant-loop-k l = map view_field l.trees.items ++ fields_from l.structs l.fields l.k (drop l.k l.fields) ≡ fields_from l.structs l.fields 0 l.fields
