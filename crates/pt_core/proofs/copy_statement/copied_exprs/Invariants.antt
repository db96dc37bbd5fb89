use Rattle.std.proofs.Common.{◌≡◌, ◌++◌, map, drop}
use Rattle.pt_core.specs.CodeTree.{view_expr}
use Rattle.pt_core.proofs.copy_statement.copied_exprs.Given as goal

-- the copies so far, and then the others, are seen as all of them
abbrev pub invariant-loop-expr : goal.invariant-loop-expr
invariant-loop-expr l = map view_expr l.copies.items ++ map view_expr (drop l.expr-index l.exprs) ≡ map view_expr l.exprs
