use Rattle.std.proofs.Common.{◌≤◌, length, ap, arith}
use Rattle.std.proofs.lemmas.List.{length-map}
use Rattle.typed_tree.specs.TypedTree.{view_function}
use Rattle.typed_tree.specs.TypedView.{view_typed}
use Rattle.typed_tree.proofs.WellFormedLemmas.{functions_few}
use Rattle.policy.proofs.SignatureLemmas.{all_collected}
use Rattle.policy.proofs.read.signatures_of.Goals as goal

pub returns-clause-few : goal.returns-clause-few
returns-clause-few c =
    let few = functions_few (view_typed c.args.t.now) c.args.t.now.well_formed in
    grind (arith, few, length-map c.args.t.now.functions.items view_function)

pub returns-clause-all : goal.returns-clause-all
returns-clause-all c =
    let end : length c.args.t.now.functions.items ≤ c.loop-function.function-index = grind (arith, ap length c.deref-function-items.ensures.value) in
    all_collected c.args.t.now.functions.items c.loop-function.all.items c.loop-function.function-index end c.loop-function.invariant.all
