use Rattle.std.proofs.Common.{◌≡◌, ◌++◌, drop, map}
use Rattle.typed_tree.specs.TypedTree.{view_function}
use Rattle.explaining.specs.Homes.{homes_from}
use Rattle.explaining.proofs.homes.homes_in.Given as goal

abbrev pub invariant-loop-function : goal.invariant-loop-function
invariant-loop-function l = l.homes.items ++ homes_from l.number (map view_function (drop l.function-index l.functions)) ≡ homes_from 0 (map view_function l.fn.functions)
