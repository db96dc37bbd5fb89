use Rattle.std.proofs.Common.{◌≡◌, map, drop}
use Rattle.pt_core.specs.CodeTree.{expr_trees, view_expr}
use Rattle.pt_core.specs.WellFormedStatement.{arguments_fit}
use Rattle.code_rules.specs.Scopes.{context_of}
use Rattle.code_rules.proofs.statements.arguments_fit.Given as goal

-- the rest of the parameters and of the arguments decides
abbrev pub invariant-loop-argument : goal.invariant-loop-argument
invariant-loop-argument l =
    arguments_fit (context_of l.scope) l.rest (expr_trees (map view_expr (drop l.argument-index l.arguments))) ≡ arguments_fit (context_of l.fn.scope) l.fn.params (expr_trees (map view_expr l.fn.arguments))
