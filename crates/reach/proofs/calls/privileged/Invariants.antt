use Rattle.std.proofs.Common.{◌≡◌, ◌++◌, drop, map}
use Rattle.typed_tree.specs.TypedTree.{view_function}
use Rattle.typed_tree.specs.TypedView.{view_typed}
use Rattle.reach.specs.CallGraph as is
use Rattle.reach.proofs.calls.privileged.Given as goal

abbrev pub invariant-loop-function : goal.invariant-loop-function
invariant-loop-function l = l.list.items ++ is.privileged_from l.number (map view_function (drop l.function-index l.t.functions.items)) ≡ is.privileged_from 0 (view_typed l.fn.t).functions
