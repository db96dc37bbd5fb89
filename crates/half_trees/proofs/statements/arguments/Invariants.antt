use Rattle.std.proofs.Common.{◌≡◌, ◌++◌, drop, map}
use Rattle.pt_core.specs.CodeTree.{view_expr}
use Rattle.pt_tree.specs.ExpressionTree as e
use Rattle.half_trees.specs.Expressions.{expression_tree}
use Rattle.half_trees.specs.Views.{view_scope}
use Rattle.half_trees.proofs.statements.arguments.Given as goal

-- the arguments so far, and then the others, are all of them
abbrev pub invariant-loop-arg : goal.invariant-loop-arg
invariant-loop-arg l =
    map e.view_expr l.trees.items ++ map (λ a. expression_tree (view_scope l.scope) (view_expr a)) (drop l.arg-index l.args)
    ≡ map (λ a. expression_tree (view_scope l.scope) (view_expr a)) l.args
