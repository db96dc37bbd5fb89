-- The trees of calls' arguments, of choices and of loops.
use Rattle.std.proofs.Common.{◌≡◌, ℕ, Bool, true, false, List, [], ◌∷◌, length, map, nat_eq, refl, ap, sym, true≢false, ◌∙◌}
use Rattle.pt_base.specs.declared.span.Span.{Span}
use Rattle.pt_base.specs.declared.int_type.IntType.TheVariants as i
use Rattle.pt_tree.specs.ExpressionTree as e
use Rattle.pt_tree.specs.StatementTree as c
use Rattle.pt_tree.specs.declared.signature.Signature.{Signature}
use Rattle.pt_core.specs.declared.expression.Expr.{Expr}
use Rattle.pt_core.specs.declared.statement.Stmt.{Stmt}
use Rattle.pt_core.specs.CodeTree.{ExprTree, StmtTree, choose, repeat, expr_trees, stmt_trees, view_expr, view_stmt}
use Rattle.pt_core.specs.Types.{Context}
use Rattle.half_trees.specs.Names.{nowhere}
use Rattle.half_trees.specs.Expressions.{number, expression_tree, argument_trees}
use Rattle.half_trees.specs.Statements.{braced, else_tree, statement_trees, statements_trees}

pub arguments_are : (k : Context) (args : List Expr) → e.expr_trees (map (λ a. expression_tree k (view_expr a)) args) ≡ argument_trees k (expr_trees (map view_expr args))
arguments_are k [] = refl
arguments_are k (a ∷ args) = ap (e.expr_and (expression_tree k (view_expr a))) (arguments_are k args)

abbrev chosen : e.ExprTree → List c.StmtTree → List Stmt → List c.StmtTree → List c.StmtTree
chosen t us ns vs = c.choose nowhere t (braced us) (else_tree (stmt_trees (map view_stmt ns)) vs) ∷ []

pub choice_is : (fs : List (ℕ × Signature)) (k : Context) (whole : StmtTree) (cond : ExprTree) (ys ns ys' ns' : List Stmt) (t : e.ExprTree) (us vs : List c.StmtTree)
    → whole ≡ choose cond (stmt_trees (map view_stmt ys)) (stmt_trees (map view_stmt ns)) → ys' ≡ ys → ns' ≡ ns → t ≡ expression_tree k cond
    → us ≡ statements_trees fs k (stmt_trees (map view_stmt ys')) → vs ≡ statements_trees fs k (stmt_trees (map view_stmt ns)) → chosen t us ns' vs ≡ statement_trees fs k whole
choice_is fs k whole cond ys ns ys' ns' t us vs is yes_is no_is test first second =
    ap (λ x. chosen x us ns' vs) test ∙ ap (λ x. chosen (expression_tree k cond) x ns' vs) (first ∙ ap (λ x. statements_trees fs k (stmt_trees (map view_stmt x))) yes_is)
    ∙ ap (λ x. chosen (expression_tree k cond) (statements_trees fs k (stmt_trees (map view_stmt ys))) ns' x) second
    ∙ ap (λ x. chosen (expression_tree k cond) (statements_trees fs k (stmt_trees (map view_stmt ys))) x (statements_trees fs k (stmt_trees (map view_stmt ns)))) no_is
    ∙ sym (ap (statement_trees fs k) is)

pub loop_is : (fs : List (ℕ × Signature)) (k : Context) (whole : StmtTree) (xs xs' : List Stmt) (s : Span) (us : List c.StmtTree)
    → whole ≡ repeat (stmt_trees (map view_stmt xs)) s → xs' ≡ xs → us ≡ statements_trees fs k (stmt_trees (map view_stmt xs')) → c.while_true nowhere (number i.Int 1) (braced us) ∷ [] ≡ statement_trees fs k whole
loop_is fs k whole xs xs' s us is same body =
    ap (λ x. c.while_true nowhere (number i.Int 1) (braced x) ∷ []) (body ∙ ap (λ x. statements_trees fs k (stmt_trees (map view_stmt x))) same) ∙ sym (ap (statement_trees fs k) is)

pub else_some : (ns : List Stmt) (vs : List c.StmtTree) → nat_eq (length ns) 0 ≡ false → c.otherwise (braced vs) ≡ else_tree (stmt_trees (map view_stmt ns)) vs
else_some [] vs h = absurd (true≢false h)
else_some (n ∷ ns) vs h = refl
