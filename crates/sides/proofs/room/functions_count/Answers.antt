use Rattle.std.proofs.Common.{◌∙◌, ap, map}
use Rattle.pt_base.proofs.Places.{drop_step_at}
use Rattle.typed_tree.specs.TypedTree.{view_function}
use Rattle.sides.specs.Leaves.{leaf_count}
use Rattle.sides.specs.Objects.{types_count}
use Rattle.sides.proofs.RoomLemmas.{function_count_on}
use Rattle.sides.proofs.room.functions_count.Goals as goal

pub loop-function-preserved : goal.loop-function-preserved
loop-function-preserved c =
    function_count_on (leaf_count c.args.structs.now) _ _ (view_function c.function-item.result) _ _ _ _ (ap (map view_function) (drop_step_at c.args.functions.now c.loop-function.function-index c.function-item.result c.loop-function-test.true c.function-item.is))
    (c.in_ok-own.ensures ∙ ap (λ xs. types_count (leaf_count c.args.structs.now) (map (λ x. x.ty) xs)) c.as_slice.ensures) c.in_ok-all.ensures c.loop-function.invariant
