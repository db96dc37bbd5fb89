use Rattle.std.proofs.Common.{◌∙◌, ◌++◌, add-one, ap, length, map, sym}
use Rattle.pt_base.proofs.Places.{drop_step_at}
use Rattle.typed_tree.specs.TypedTree.{view_function}
use Rattle.sides.specs.Layouts.{functions_objects}
use Rattle.sides.specs.Leaves.{leaf_count}
use Rattle.sides.specs.Objects.{objects_from}
use Rattle.sides.specs.Slots.{variables_slots, functions_slots}
use Rattle.reach.proofs.MoreLemmas.{moved_on}
use Rattle.sides.proofs.LayoutLemmas.{function_on}
use Rattle.sides.proofs.objects.add_functions.Goals as goal

pub loop-function-preserved : goal.loop-function-preserved
loop-function-preserved c =
    let split = ap (map view_function) (drop_step_at c.args.functions.now c.loop-function.function-index c.function-item.result c.loop-function-test.true c.function-item.is) in
    let own = c.new.ensures ∙ c.in_ok-own.ensures.objects ∙ ap (λ xs. objects_from (leaf_count c.args.structs.now) (length c.loop-function.slots.items) (map (λ x. x.ty) xs)) c.as_slice-vars.ensures in
    let more = c.in_ok-own.ensures.slots ∙ ap (λ xs. c.loop-function.slots.items ++ variables_slots c.args.structs.now c.loop-function.number 0 xs) c.as_slice-vars.ensures in
    record {
      objects = function_on c.args.structs.now c.loop-function.number (view_function c.function-item.result) _ _ _ _ _ _ _ own c.in_ok-push.ensures.items more
          (ap (λ xs. c.loop-function.objects.items ++ functions_objects (leaf_count c.args.structs.now) (length c.loop-function.slots.items) xs) (sym split) ∙ c.loop-function.invariant.objects);
      slots = rw (c.in_ok-number.ensures, add-one) (moved_on _ _ _ _ _ more
          (ap (λ xs. c.loop-function.slots.items ++ functions_slots c.args.structs.now c.loop-function.number xs) (sym split) ∙ c.loop-function.invariant.slots));
    }
