use Rattle.std.proofs.Common.{◌≤◌, ◌+◌, ◌*◌, map, vec_len}
use Rattle.pt_core.specs.declared.expression.Expr.{size-Expr}
use Rattle.pt_core.specs.CodeTree.{view_expr}
use Rattle.pt_core.specs.LeftOperand.{Leads}
use Rattle.pt_core.proofs.LeftOperands.{AreWithin, seen}
use Rattle.pt_core.proofs.expression.Expr.+copies.Given as goal

abbrev pub decreases-copy : goal.decreases-copy
decreases-copy l = 2 * size-Expr l.self.now + 1

abbrev pub decreases-rebuilt : goal.decreases-rebuilt
decreases-rebuilt l = 2 * size-Expr l.self.now

abbrev pub invariant-copy-loop-left : goal.invariant-copy-loop-left
invariant-copy-loop-left l = record {
  leads : Leads (view_expr l.self) (map seen l.above.items) (view_expr l.at);
  within : AreWithin (size-Expr l.self) l.above.items;
  small : size-Expr l.at ≤ size-Expr l.self;
}

abbrev pub decreases-copy-loop-left : goal.decreases-copy-loop-left
decreases-copy-loop-left l = size-Expr l.at

abbrev pub invariant-copy-loop-expr : goal.invariant-copy-loop-expr
invariant-copy-loop-expr l = record {
  leads : Leads (view_expr l.self) (map seen l.above.items) (view_expr l.copied);
  within : AreWithin (size-Expr l.self) l.above.items;
}

abbrev pub decreases-copy-loop-expr : goal.decreases-copy-loop-expr
decreases-copy-loop-expr l = vec_len l.above
