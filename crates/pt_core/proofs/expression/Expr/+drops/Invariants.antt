use Rattle.std.proofs.Common.{◌≤◌}
use Rattle.pt_core.specs.declared.expression.Expr.{size-Expr}
use Rattle.pt_core.proofs.expression.Expr.+drops.Given as goal

-- what is left is no deeper than the whole
abbrev pub invariant-drop-loop-left : goal.invariant-drop-loop-left
invariant-drop-loop-left l = size-Expr l.self ≤ size-Expr l.fn.self
