use Rattle.std.proofs.Common.{◌≡◌, ◌++◌, drop, map}
use Rattle.std.specs.List.{flat_map}
use Rattle.typed_tree.specs.TypedTree.{view_function}
use Rattle.typed_tree.specs.TypedView.{view_typed}
use Rattle.flow_rules.specs.Findings.{function_findings}
use Rattle.flow_rules.specs.Kept.{kept}
use Rattle.flow_rules.proofs.function_rules.add_functions.Given as goal

abbrev pub invariant-loop-function : goal.invariant-loop-function
invariant-loop-function l =
    l.list.items ++ map kept (flat_map function_findings (map view_function (drop l.function-index l.function-items)))
    ≡ l.fn.list.items ++ map kept (flat_map function_findings (view_typed l.fn.t).functions)
