use Rattle.std.proofs.Common.{◌≡◌, map, drop}
use Rattle.std.specs.List.{position_from}
use Rattle.typed_tree.specs.TypedTree.{FunctionTree, view_function}
use Rattle.typed_tree.specs.TypedView.{view_typed}
use Rattle.starting_texts.specs.Tables.{is_unfit, first_unfit}
use Rattle.starting_texts.proofs.table_text.first_unfit.Given as goal

-- the first one is the first of the rest
abbrev pub invariant-loop-function : goal.invariant-loop-function
invariant-loop-function l = record {
  number : l.number ≡ l.function-index;
  rest : position_from is_unfit l.number (map (λ (f : FunctionTree). f.signature) (map view_function (drop l.function-index l.t.functions.items))) ≡ first_unfit (view_typed l.fn.t);
}
