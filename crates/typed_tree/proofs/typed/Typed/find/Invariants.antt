use Rattle.std.proofs.Common.{◌≡◌, map, drop}
use Rattle.typed_tree.specs.TypedTree.{view_function}
use Rattle.typed_tree.specs.TypedView.{view_typed}
use Rattle.typed_tree.specs.Lookup.{named_from, function_named}
use Rattle.typed_tree.proofs.typed.Typed.find.Given as goal

-- the function that is sought stands among the rest
abbrev pub invariant-loop-function : goal.invariant-loop-function
invariant-loop-function l = record {
  number : l.number ≡ l.function-index;
  rest : named_from l.number (map view_function (drop l.function-index l.self.functions.items)) l.fn.name ≡ function_named (view_typed l.fn.self) l.fn.name;
}
