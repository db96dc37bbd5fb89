use Rattle.std.proofs.Common.{arith}
use Rattle.std.proofs.lemmas.List.{length-map}
use Rattle.typed_tree.specs.TypedTree.{view_function}
use Rattle.typed_tree.specs.TypedView.{view_typed}
use Rattle.typed_tree.proofs.WellFormedLemmas.{functions_few}
use Rattle.starting_texts.proofs.table_text.first_unfit.Goals as goal

pub overflow_add-number : goal.overflow_add-number
overflow_add-number c =
    let few = functions_few (view_typed c.args.t.now) c.args.t.now.well_formed in
    let test = c.loop-function-test.true in
    let number = c.loop-function.invariant.number in
    grind (arith, few, test, number, length-map c.args.t.now.functions.items view_function)
