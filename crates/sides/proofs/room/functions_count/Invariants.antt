use Rattle.std.proofs.Common.{◌≡◌, ◌+◌, drop, map}
use Rattle.typed_tree.specs.TypedTree.{view_function}
use Rattle.sides.specs.Leaves.{leaf_count}
use Rattle.sides.specs.Objects as is
use Rattle.sides.proofs.room.functions_count.Given as goal

abbrev pub invariant-loop-function : goal.invariant-loop-function
invariant-loop-function l = l.all + is.functions_count (leaf_count l.structs) (map view_function (drop l.function-index l.functions)) ≡ is.functions_count (leaf_count l.fn.structs) (map view_function l.fn.functions)
