use Rattle.std.proofs.Common.{◌≡◌, ◌≤◌, ◌+◌, ◌*◌, map, vec_len}
use Rattle.pt_core.specs.declared.expression.Expr.{size-Expr}
use Rattle.pt_core.specs.CodeTree.{ExprTree, view_expr}
use Rattle.pt_core.specs.LeftOperand.{Leads}
use Rattle.pt_core.proofs.LeftOperands.{AreWithin, seen}
use Rattle.half_trees.specs.Built as built
use Rattle.half_trees.specs.Views.{view_scope}
use Rattle.half_trees.proofs.expressions.+expressions.Given as goal

abbrev pub decreases-expression : goal.decreases-expression
decreases-expression l = 2 * size-Expr l.e.now + 1

abbrev pub decreases-built_on : goal.decreases-built_on
decreases-built_on l = 2 * size-Expr l.e.now

abbrev pub invariant-expression-loop-left : goal.invariant-expression-loop-left
invariant-expression-loop-left l = record {
  leads : Leads (view_expr l.e) (map seen l.above.items) (view_expr l.at);
  within : AreWithin (size-Expr l.e) l.above.items;
  small : size-Expr l.at ≤ size-Expr l.e;
}

abbrev pub decreases-expression-loop-left : goal.decreases-expression-loop-left
decreases-expression-loop-left l = size-Expr l.at

-- what is built is that of the last left operand
abbrev pub invariant-expression-loop-next : goal.invariant-expression-loop-next
invariant-expression-loop-next l = record {
  leads : (last : ExprTree) × Leads (view_expr l.e) (map seen l.above.items) last × (built.seen l.whole ≡ built.expression (view_scope l.scope) last);
  within : AreWithin (size-Expr l.e) l.above.items;
}

abbrev pub decreases-expression-loop-next : goal.decreases-expression-loop-next
decreases-expression-loop-next l = vec_len l.above
