use Rattle.std.proofs.Common.{◌≡◌, ◌+◌, ◌*◌, max, map, drop, Some}
use Rattle.pt_base.specs.declared.span.Span.{Span}
use Rattle.typed_tree.specs.declared.expression.TypedExpr.{size-TypedExpr}
use Rattle.typed_tree.specs.declared.place.Place.{size-Place}
use Rattle.typed_tree.specs.ExpressionTree as t
use Rattle.pt_core.specs.CodeTree.{view_expr}
use Rattle.lowering.specs.Lowered.{Effects, Lowered, LoweredPlace}
use Rattle.lowering.specs.Expressions.{arguments_in}
use Rattle.lowering.specs.Functions.{span_of}
use Rattle.lowering.specs.Names.{scope_of}
use Rattle.lowering.specs.Output.{Output, output_of, next, view_found, Gives, Finds, Does}
use Rattle.c_lower.proofs.WalkLemmas.{LinksSoFar, OperandsSoFar, StepsSoFar, ArgumentsSoFar}
use Rattle.c_lower.proofs.expressions.+expressions.Given as goal

abbrev pub decreases-value : goal.decreases-value
decreases-value l = 8 * goal.size-value l + 2

abbrev pub decreases-object : goal.decreases-object
decreases-object l = 8 * goal.size-object l + 2

abbrev pub decreases-held : goal.decreases-held
decreases-held l = 8 * goal.size-held l + 3

abbrev pub decreases-effects : goal.decreases-effects
decreases-effects l = 8 * goal.size-effects l + 4

abbrev pub decreases-effects_apart : goal.decreases-effects_apart
decreases-effects_apart l = 8 * goal.size-effects_apart l + 5

abbrev pub decreases-arm : goal.decreases-arm
decreases-arm l = 8 * goal.size-arm l + 3

abbrev pub decreases-argument : goal.decreases-argument
decreases-argument l = 8 * goal.size-argument l + 3

abbrev pub decreases-arguments : goal.decreases-arguments
decreases-arguments l = 8 * goal.size-arguments l + 4

abbrev pub decreases-linked : goal.decreases-linked
decreases-linked l = 8 * goal.size-linked l + 3

abbrev pub decreases-chained : goal.decreases-chained
decreases-chained l = 8 * goal.size-chained l + 4

abbrev pub decreases-operand_of : goal.decreases-operand_of
decreases-operand_of l = 8 * goal.size-operand_of l + 3

abbrev pub decreases-operands : goal.decreases-operands
decreases-operands l = 8 * goal.size-operands l + 4

abbrev pub decreases-assignment : goal.decreases-assignment
decreases-assignment l = 8 * max (size-Place l.p.now) (size-TypedExpr l.a.now) + 7

abbrev pub decreases-target : goal.decreases-target
decreases-target l = 8 * goal.size-target l + 6

abbrev pub decreases-checked : goal.decreases-checked
decreases-checked l = 8 * goal.size-checked l + 6

abbrev pub decreases-place : goal.decreases-place
decreases-place l = 8 * goal.size-place l + 5

abbrev pub decreases-part : goal.decreases-part
decreases-part l = 8 * goal.size-part l + 4

abbrev pub decreases-stepped_to : goal.decreases-stepped_to
decreases-stepped_to l = 8 * goal.size-stepped_to l + 3

abbrev pub decreases-item : goal.decreases-item
decreases-item l = 8 * goal.size-item l + 3

abbrev pub decreases-root : goal.decreases-root
decreases-root l = 8 * goal.size-root l + 4

-- the links so far, and then the others, are all of them
abbrev pub invariant-chained-loop-link : goal.invariant-chained-loop-link
invariant-chained-loop-link l =
    (o : Output) (whole : t.ExprTree) (far : Lowered) (s : Span) → Gives o far (output_of l.fn.lowering) (view_expr l.fn.value) → l.fn.first.holds ≡ Some (span_of whole) →
    LinksSoFar (scope_of l.names) (t.link_trees (map t.view_link (drop l.link-index l.links))) (t.link_trees (map t.view_link l.fn.links)) whole s l.fn.first.ty far o (output_of l.lowering) (view_expr l.so_far) l.keeper

abbrev pub invariant-operands-loop-operand : goal.invariant-operands-loop-operand
invariant-operands-loop-operand l =
    (o : Output) (far : Effects) → Does o far (output_of l.fn.lowering) →
    OperandsSoFar (scope_of l.names) (t.operand_trees (map t.view_operand (drop l.operand-index l.all))) (t.operand_trees (map t.view_operand l.fn.all)) l.op l.k.0 far o (output_of l.lowering)

abbrev pub invariant-part-loop-step : goal.invariant-part-loop-step
invariant-part-loop-step l =
    (o : Output) (root : t.RootTree) (low : LoweredPlace) → Finds o low (output_of l.fn.lowering) (view_found l.fn.whole) →
    StepsSoFar (scope_of l.names) (t.step_trees (map t.view_step (drop l.step-index l.steps))) (t.step_trees (map t.view_step l.fn.steps)) root low o (output_of l.lowering) (view_found l.at)

-- those so far, and what the others will make, are all
abbrev pub invariant-arguments-loop-i : goal.invariant-arguments-loop-i
invariant-arguments-loop-i l =
    ArgumentsSoFar (arguments_in (scope_of l.names) (t.expr_trees (map t.view_expr (drop l.i l.all))) (next (output_of l.lowering)))
    (arguments_in (scope_of l.names) (t.expr_trees (map t.view_expr l.fn.all)) (next (output_of l.fn.lowering)))
    (output_of l.fn.lowering) (output_of l.lowering) (map view_expr l.values.items)
