-- What statements call.
use Rattle.std.proofs.Common.{◌≡◌, ◌∙◌, sym, ap, ℕ, Bool, List, map}
use Rattle.std.specs.Prelude.{Vec, ◌&&◌}
use Rattle.std.specs.List.{list_all}
use Rattle.std.specs.declared.alloc.Global.{Global}
use Rattle.std.proofs.lemmas.List.Folds.{list_all-append}
use Rattle.pt_base.specs.declared.span.Span.{Span}
use Rattle.pt_core.specs.declared.expression.Expr.{Expr}
use Rattle.pt_core.specs.declared.statement.Stmt.{Stmt}
use Rattle.pt_core.specs.declared.statement.Stmt.TheVariants as s
use Rattle.pt_core.specs.CodeTree.{StmtTree, stmt_trees, view_stmt}
use Rattle.pt_core.specs.WellFormedStatement.{callees_in, callees_of}
use Rattle.pt_core.proofs.Rows.{view_choose, view_repeat}

abbrev all_called : (ℕ → Bool) → List Stmt → Bool
all_called test statements = list_all test (callees_of (stmt_trees (map view_stmt statements)))

pub both_called : (test : ℕ → Bool) (statement : Stmt) (a : Expr) (xs ys : Vec Stmt Global) (us vs : List Stmt) (x y : Bool) → statement ≡ s.If a xs ys → us ≡ xs.items → vs ≡ ys.items → x ≡ all_called test us → y ≡ all_called test vs →
    (x && y) ≡ list_all test (callees_in (view_stmt statement))
both_called test statement a xs ys us vs x y is first second here there =
    ap (λ b. b && y) (here ∙ ap (all_called test) first)
    ∙ ap (λ b. all_called test xs.items && b) (there ∙ ap (all_called test) second)
    ∙ sym (list_all-append test (callees_of (stmt_trees (map view_stmt xs.items))) (callees_of (stmt_trees (map view_stmt ys.items))))
    ∙ ap (λ (t : StmtTree). list_all test (callees_in t)) (sym (view_choose a xs ys) ∙ sym (ap view_stmt is))

pub loop_called : (test : ℕ → Bool) (statement : Stmt) (xs : Vec Stmt Global) (at : Span) (us : List Stmt) (x : Bool) → statement ≡ s.Loop xs at → us ≡ xs.items → x ≡ all_called test us → x ≡ list_all test (callees_in (view_stmt statement))
loop_called test statement xs at us x is first here =
    here ∙ ap (all_called test) first ∙ ap (λ (t : StmtTree). list_all test (callees_in t)) (sym (view_repeat xs at) ∙ sym (ap view_stmt is))
