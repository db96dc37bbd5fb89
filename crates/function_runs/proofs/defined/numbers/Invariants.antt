use Rattle.std.proofs.Common.{◌≡◌, ◌++◌, drop, map}
use Rattle.typed_tree.specs.TypedTree.{view_function}
use Rattle.typed_tree.specs.TypedView.{view_typed}
use Rattle.function_runs.specs.Defined.{defined, defined_from}
use Rattle.function_runs.proofs.defined.numbers.Given as goal

-- those so far, and then the others, are all of them
abbrev pub invariant-loop-function : goal.invariant-loop-function
invariant-loop-function l = l.list.items ++ defined_from l.number (map view_function (drop l.function-index l.t.functions.items)) ≡ defined (view_typed l.fn.t)
