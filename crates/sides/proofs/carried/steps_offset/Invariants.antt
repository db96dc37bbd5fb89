use Rattle.std.proofs.Common.{◌≡◌, ◌+◌, drop, map}
use Rattle.typed_tree.specs.ExpressionTree.{view_step, step_trees}
use Rattle.sides.specs.Carried as is
use Rattle.sides.proofs.carried.steps_offset.Given as goal

abbrev pub invariant-loop-step : goal.invariant-loop-step
invariant-loop-step l =
    l.offset + is.steps_offset l.scope.structs.now l.ty (step_trees (map view_step (drop l.step-index l.steps)))
    ≡ is.steps_offset l.fn.scope.structs.now l.fn.root (step_trees (map view_step l.fn.steps))
