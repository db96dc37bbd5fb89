-- What a variant with a place or a list is seen as.
use Rattle.std.proofs.Common.{◌≡◌, List, refl, ap, ◌∙◌, rules, map}
use Rattle.std.specs.Prelude.{Vec}
use Rattle.std.specs.declared.alloc.Global.{Global}
use Rattle.pt_base.specs.declared.span.Span.{Span}
use Rattle.pt_core.specs.declared.place.Place.{Place}
use Rattle.pt_core.specs.declared.expression.Expr.{Expr}
use Rattle.pt_core.specs.declared.expression.Expr.TheVariants as e
use Rattle.pt_core.specs.declared.expression.Expr.TheViews as expr_views
use Rattle.pt_core.specs.declared.statement.Stmt.{Stmt, Row_of-Stmt, end_of-Stmt, more_of-Stmt, items-the_row-Stmt}
use Rattle.pt_core.specs.declared.statement.Stmt.TheVariants as s
use Rattle.pt_core.specs.declared.statement.Stmt.TheViews as stmt_views
use Rattle.pt_core.specs.CodeTree.{ExprTree, StmtTree, read, address, decay, choose, repeat, stmt_and, view_expr, view_place, view_stmt, view_stmt_row, stmt_trees}

pub view_read : (p : Place) → view_expr (e.Read p) ≡ read (view_place p)
view_read p = search (rules, expr_views.the_lemmas)

pub view_address : (p : Place) → view_expr (e.Addr p) ≡ address (view_place p)
view_address p = search (rules, expr_views.the_lemmas)

pub view_decay : (p : Place) → view_expr (e.Decay p) ≡ decay (view_place p)
view_decay p = search (rules, expr_views.the_lemmas)

stmt_row : (n : _) (k : Row_of-Stmt n) → view_stmt_row k ≡ stmt_trees (map view_stmt (items-the_row-Stmt n k))
stmt_row _ end_of-Stmt = refl
stmt_row _ (more_of-Stmt a rest) = ap (stmt_and (view_stmt a)) (stmt_row _ rest)

pub view_choose : (a : Expr) (xs ys : Vec Stmt Global) → view_stmt (s.If a xs ys) ≡ choose (view_expr a) (stmt_trees (map view_stmt xs.items)) (stmt_trees (map view_stmt ys.items))
view_choose a xs ys = search (rules, stmt_views.the_lemmas, stmt_row)

pub view_repeat : (xs : Vec Stmt Global) (at : Span) → view_stmt (s.Loop xs at) ≡ repeat (stmt_trees (map view_stmt xs.items)) at
view_repeat xs at = search (rules, stmt_views.the_lemmas, stmt_row)

-- of equal parts
pub same_choice : (a b : ExprTree) (xs ys us vs : List StmtTree) → a ≡ b → xs ≡ ys → us ≡ vs → choose a (stmt_trees xs) (stmt_trees us) ≡ choose b (stmt_trees ys) (stmt_trees vs)
same_choice a b xs ys us vs h i j = ap (λ x. choose x (stmt_trees xs) (stmt_trees us)) h ∙ ap (λ x. choose b (stmt_trees x) (stmt_trees us)) i ∙ ap (λ x. choose b (stmt_trees ys) (stmt_trees x)) j
