use Rattle.std.proofs.Common.{◌≡◌, ◌++◌, drop, map}
use Rattle.pt_core.specs.CodeTree.{view_function}
use Rattle.typed_tree.specs.TypedView.{view_typed}
use Rattle.outlining.specs.OutlineTexts.{functions_text}
use Rattle.outlining.proofs.lines.push_functions.Given as goal

abbrev pub invariant-loop-function : goal.invariant-loop-function
invariant-loop-function l =
    l.text.items ++ functions_text (view_typed l.t) (map view_function (drop l.function-index l.functions)) ≡ l.fn.text.items ++ functions_text (view_typed l.t) (map view_function l.fn.functions)
