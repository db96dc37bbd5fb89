use Rattle.std.proofs.Common.{◌≤◌, ◌+◌, ◌*◌, map, vec_len}
use Rattle.pt_core.specs.declared.expression.Expr.{size-Expr}
use Rattle.pt_core.specs.CodeTree.{view_expr}
use Rattle.pt_core.proofs.LeftOperands.{AreWithin, seen}
use Rattle.boot_writing.proofs.Chains.{Down, Up}
use Rattle.boot_writing.proofs.expressions.+tails.Given as goal

abbrev pub decreases-put_expr : goal.decreases-put_expr
decreases-put_expr l = 2 * size-Expr l.whole.now + 1

abbrev pub decreases-put_tail : goal.decreases-put_tail
decreases-put_tail l = 2 * size-Expr l.expr.now

abbrev pub invariant-put_expr-loop-left : goal.invariant-put_expr-loop-left
invariant-put_expr-loop-left l = record {
  down : Down (map seen l.above.items) (view_expr l.whole) (view_expr l.at) l.fn.out.items l.out.items;
  within : AreWithin (size-Expr l.whole) l.above.items;
  small : size-Expr l.at ≤ size-Expr l.whole;
}

abbrev pub decreases-put_expr-loop-left : goal.decreases-put_expr-loop-left
decreases-put_expr-loop-left l = size-Expr l.at

abbrev pub invariant-put_expr-loop-expr : goal.invariant-put_expr-loop-expr
invariant-put_expr-loop-expr l = record {
  up : Up (map seen l.above.items) (view_expr l.whole) l.fn.out.items l.out.items;
  within : AreWithin (size-Expr l.whole) l.above.items;
}

abbrev pub decreases-put_expr-loop-expr : goal.decreases-put_expr-loop-expr
decreases-put_expr-loop-expr l = vec_len l.above
