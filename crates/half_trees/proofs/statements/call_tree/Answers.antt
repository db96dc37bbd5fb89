use Rattle.std.proofs.Common.{◌≡◌, ◌∙◌, ℕ, List, IfOk, ap, map, nat_eq, subst}
use Rattle.pt_tree.specs.ExpressionTree as e
use Rattle.pt_core.specs.CodeTree.{expr_trees, view_expr}
use Rattle.half_trees.specs.Names.{nowhere, word, function_by}
use Rattle.half_trees.specs.Views.{view_scope}
use Rattle.half_trees.proofs.StatementLemmas.{arguments_are}
use Rattle.half_trees.proofs.statements.call_tree.Goals as goal

abbrev calling : List ℕ → e.ExprTrees → e.ExprTree
calling name args = e.postfix nowhere (e.name (word name)) (e.postfix_and (e.call nowhere args) e.no_postfixes)

pub returns : goal.returns
returns c =
    let named = c.in_ok-name.ensures ∙ ap (function_by c.args.f.0) c.signature.ensures in
    let given = ap e.expr_trees c.in_ok-args.ensures ∙ arguments_are (view_scope c.args.scope.now) c.args.args.now in
    subst (λ t. IfOk c.call_of.result (λ x. e.view_expr x ≡ t)) (ap (λ n. calling n (e.expr_trees (map e.view_expr c.in_ok-args.args.items))) named ∙ ap (calling _) given) c.call_of.ensures
