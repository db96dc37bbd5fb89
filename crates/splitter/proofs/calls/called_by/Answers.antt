use Rattle.std.proofs.Common.{ap, map, ◌∙◌}
use Rattle.pt_base.proofs.Places.{drop_step_at}
use Rattle.pt_core.specs.CodeTree.{FunctionTree, stmt_trees, view_function, view_stmt}
use Rattle.pt_core.specs.WellFormedStatement.{callees_of}
use Rattle.reach.specs.Tables.{set_all}
use Rattle.reach.proofs.WalkLemmas.{item_on}
use Rattle.splitter.proofs.calls.called_by.Goals as goal

pub loop-function-preserved : goal.loop-function-preserved
loop-function-preserved c =
    item_on (λ (f : FunctionTree). callees_of f.body) _ _ (view_function c.function-item.result) _ _ _
    (ap (map view_function) (drop_step_at c.args.functions.now c.loop-function.function-index c.function-item.result c.loop-function-test.true c.function-item.is))
    (c.add_all_callees.ensures ∙ ap (λ xs. set_all c.loop-function.called (callees_of (stmt_trees (map view_stmt xs)))) c.deref.ensures.value) c.loop-function.invariant
