use Rattle.std.proofs.Common.{◌≡◌, ◌++◌, drop, map}
use Rattle.typed_tree.specs.TypedTree.{view_function}
use Rattle.typed_tree.specs.TypedView.{view_typed}
use Rattle.pair_texts.specs.Start.{names_of}
use Rattle.pair_texts.proofs.names.names_of.Given as goal

abbrev pub invariant-loop-function : goal.invariant-loop-function
invariant-loop-function l =
    l.names.items ++ map (λ s. s.name) (map (λ f. f.signature) (map view_function (drop l.function-index l.program.functions.items)))
    ≡ names_of (view_typed l.fn.program)
