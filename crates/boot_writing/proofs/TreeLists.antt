-- Lists of trees as lists.
use Rattle.std.proofs.Common.{◌≡◌, ℕ, suc, ◌+◌, ◌<◌, ◌≤◌, ◌^◌, List, [], ◌∷◌, ◌++◌, length, get_or, drop, map, refl, sym, ap, subst, ◌∙◌, append_assoc}
use Rattle.std.specs.Prelude.{Result, Ok, Err, OnOk, Vec}
use Rattle.std.specs.declared.alloc.Global.{Global}
use Rattle.std.specs.List.{flat_map, AllByRecursion}
use Rattle.std.proofs.lemmas.List.{append-nil, drop_more, drop_all, length-map}
use Rattle.wire.specs.Spelling.{eight_bytes}
use Rattle.wire.proofs.Put.{Putting}
use Rattle.pt_base.specs.declared.span.Span.{Span}
use Rattle.pt_core.specs.declared.expression.Expr.{Expr}
use Rattle.pt_core.specs.declared.statement.Stmt.{Stmt}
use Rattle.pt_core.specs.declared.statement.Stmt.TheVariants as stmt
use Rattle.pt_core.specs.CodeTree.{ExprTree, expr_trees, StmtTree, choose, repeat, stmt_trees, view_expr, view_stmt}
use Rattle.pt_core.proofs.Rows.{view_choose, view_repeat, same_choice}
use Rattle.boot_fields.specs.Spelling.{exprs_of, exprs_bytes, expr_bytes, count_of, stmt_bytes, items_bytes, stmts_bytes, list_bytes, span_bytes}
use Rattle.boot_fields.specs.Limits.{FitsList, FitsSpan, FitsExpr, FitsExprs, FitsStmt, FitsEach, FitsStmts}

pub exprs_listed : (xs : List ExprTree) → exprs_of (expr_trees xs) ≡ xs
exprs_listed [] = refl
exprs_listed (x ∷ xs) = ap (λ y. x ∷ y) (exprs_listed xs)

pub exprs_spelled : (xs : List ExprTree) → list_bytes expr_bytes xs ≡ exprs_bytes (expr_trees xs)
exprs_spelled xs = ap (list_bytes expr_bytes) (sym (exprs_listed xs))

pub exprs_fit : (xs : List ExprTree) → FitsList FitsExpr xs → FitsExprs (expr_trees xs)
exprs_fit xs h = subst (FitsList FitsExpr) (sym (exprs_listed xs)) h

stmts_counted : (xs : List StmtTree) → count_of (stmt_trees xs) ≡ length xs
stmts_counted [] = refl
stmts_counted (x ∷ xs) = ap suc (stmts_counted xs)

items_spelled : (xs : List StmtTree) → flat_map stmt_bytes xs ≡ items_bytes (stmt_trees xs)
items_spelled [] = refl
items_spelled (x ∷ xs) = ap (λ y. stmt_bytes x ++ y) (items_spelled xs)

each_fits : (xs : List StmtTree) → AllByRecursion FitsStmt xs → FitsEach (stmt_trees xs)
each_fits [] h = tt
each_fits (x ∷ xs) h = (h.0, each_fits xs h.1)

pub stmts_spelled : (xs : List StmtTree) → list_bytes stmt_bytes xs ≡ stmts_bytes (stmt_trees xs)
stmts_spelled xs = ap (λ n. eight_bytes n ++ flat_map stmt_bytes xs) (sym (stmts_counted xs)) ∙ ap (λ y. eight_bytes (count_of (stmt_trees xs)) ++ y) (items_spelled xs)

pub stmts_fit : (xs : List StmtTree) → FitsList FitsStmt xs → FitsStmts (stmt_trees xs)
stmts_fit xs h = (subst (λ n. n < 2 ^ 64) (sym (stmts_counted xs)) h.0, each_fits xs h.1)

-- all items of a list were put behind its length
pub all_put : {A : Type 0} (spelled : A → List ℕ) (Fits : A → Type 0) (all : List A) (count : ℕ) (before now : List ℕ) → count ≡ length all → count < 2 ^ 64
    → Putting spelled Fits all [] (before ++ eight_bytes count) now → (now ≡ before ++ list_bytes spelled all) × FitsList Fits all
all_put spelled Fits all count before now is lt so_far = (
  sym (append-nil now) ∙ so_far.bytes ∙ append_assoc before (eight_bytes count) (flat_map spelled all) ∙ ap (λ n. before ++ (eight_bytes n ++ flat_map spelled all)) is,
  (subst (λ n. n < 2 ^ 64) is lt, so_far.fits tt),
)

-- one more item was put, as it is seen
pub putting_by : {X A : Type 0} (view : X → A) (spelled : A → List ℕ) (Fits : A → Type 0) (all : List A) (xs : List X) (i : ℕ) (x : X) (before now after : List ℕ) → i < length xs → x ≡ get_or xs i x
    → Putting spelled Fits all (map view (drop i xs)) before now → after ≡ now ++ spelled (view x) → Fits (view x) → Putting spelled Fits all (map view (drop (i + 1) xs)) before after
putting_by view spelled Fits all xs i x before now after lt is so_far added fits =
    let here : drop i xs ≡ x ∷ drop (i + 1) xs = drop_more xs i x lt ∙ ap (λ y. y ∷ drop (i + 1) xs) (sym is) in
    let left = subst (λ left. Putting spelled Fits all (map view left) before now) here so_far in
    record {
      bytes = ap (λ ys. ys ++ flat_map spelled (map view (drop (i + 1) xs))) added ∙ append_assoc now (spelled (view x)) (flat_map spelled (map view (drop (i + 1) xs))) ∙ left.bytes;
      fits = λ h. left.fits (fits, h);
    }

pub stmts_put : (xs : List Stmt) (i : ℕ) (before now : List ℕ) → length xs ≤ i → length xs < 2 ^ 64
    → Putting stmt_bytes FitsStmt (map view_stmt xs) (map view_stmt (drop i xs)) (before ++ eight_bytes (length xs)) now
    → (now ≡ before ++ stmts_bytes (stmt_trees (map view_stmt xs))) × FitsStmts (stmt_trees (map view_stmt xs))
stmts_put xs i before now le lt so_far =
    let none : drop i xs ≡ [] = drop_all i xs le in
    let left = subst (λ left. Putting stmt_bytes FitsStmt (map view_stmt xs) (map view_stmt left) (before ++ eight_bytes (length xs)) now) none so_far in
    let r = all_put stmt_bytes FitsStmt (map view_stmt xs) (length xs) before now (sym (length-map xs view_stmt)) lt left in
    (r.0 ∙ ap (λ b. before ++ b) (stmts_spelled (map view_stmt xs)), stmts_fit (map view_stmt xs) r.1)

-- what follows where a function gave a value
pub if_ok : {R E : Type 0} {P Q : Type 0} (r : Result R E) → (P → Q) → OnOk r P → OnOk r Q
if_ok (Ok x) f h = f h
if_ok (Err e) f h = tt

-- ---- statements with statements inside

choice_seen : (s : Stmt) (a : Expr) (xs ys : Vec Stmt Global) (us vs : List Stmt) → s ≡ stmt.If a xs ys → us ≡ xs.items → vs ≡ ys.items
    → view_stmt s ≡ choose (view_expr a) (stmt_trees (map view_stmt us)) (stmt_trees (map view_stmt vs))
choice_seen s a xs ys us vs is first second =
    ap view_stmt is ∙ view_choose a xs ys ∙ same_choice (view_expr a) (view_expr a) (map view_stmt xs.items) (map view_stmt us) (map view_stmt ys.items) (map view_stmt vs) refl (ap (map view_stmt) (sym first)) (ap (map view_stmt) (sym second))

regroup4 : (old a b c d : List ℕ) → (((old ++ a) ++ b) ++ c) ++ d ≡ old ++ (a ++ (b ++ (c ++ d)))
regroup4 old a b c d = simp append_assoc

pub choice_put : (s : Stmt) (a : Expr) (xs ys : Vec Stmt Global) (us vs : List Stmt) (old o1 o2 o3 o4 : List ℕ) → s ≡ stmt.If a xs ys → us ≡ xs.items → vs ≡ ys.items
    → o1 ≡ old ++ 5 ∷ [] → o2 ≡ o1 ++ expr_bytes (view_expr a) → o3 ≡ o2 ++ stmts_bytes (stmt_trees (map view_stmt us)) → o4 ≡ o3 ++ stmts_bytes (stmt_trees (map view_stmt vs))
    → o4 ≡ old ++ stmt_bytes (view_stmt s)
choice_put s a xs ys us vs old o1 o2 o3 o4 is first second e1 e2 e3 e4 =
    e4
    ∙ ap (λ o. o ++ stmts_bytes (stmt_trees (map view_stmt vs))) (e3 ∙ ap (λ o. o ++ stmts_bytes (stmt_trees (map view_stmt us))) (e2 ∙ ap (λ o. o ++ expr_bytes (view_expr a)) e1))
    ∙ regroup4 old (5 ∷ []) (expr_bytes (view_expr a)) (stmts_bytes (stmt_trees (map view_stmt us))) (stmts_bytes (stmt_trees (map view_stmt vs)))
    ∙ ap (λ t. old ++ stmt_bytes t) (sym (choice_seen s a xs ys us vs is first second))

pub choice_fits : (s : Stmt) (a : Expr) (xs ys : Vec Stmt Global) (us vs : List Stmt) → s ≡ stmt.If a xs ys → us ≡ xs.items → vs ≡ ys.items
    → FitsExpr (view_expr a) → FitsStmts (stmt_trees (map view_stmt us)) → FitsStmts (stmt_trees (map view_stmt vs)) → FitsStmt (view_stmt s)
choice_fits s a xs ys us vs is first second f g h = subst FitsStmt (sym (choice_seen s a xs ys us vs is first second)) (f, (g, h))

loop_seen : (s : Stmt) (xs : Vec Stmt Global) (at : Span) (us : List Stmt) → s ≡ stmt.Loop xs at → us ≡ xs.items → view_stmt s ≡ repeat (stmt_trees (map view_stmt us)) at
loop_seen s xs at us is first = ap view_stmt is ∙ view_repeat xs at ∙ ap (λ zs. repeat (stmt_trees (map view_stmt zs)) at) (sym first)

pub loop_put : (s : Stmt) (xs : Vec Stmt Global) (at : Span) (us : List Stmt) (old o1 o2 o3 : List ℕ) → s ≡ stmt.Loop xs at → us ≡ xs.items
    → o1 ≡ old ++ 6 ∷ [] → o2 ≡ o1 ++ stmts_bytes (stmt_trees (map view_stmt us)) → o3 ≡ o2 ++ span_bytes at → o3 ≡ old ++ stmt_bytes (view_stmt s)
loop_put s xs at us old o1 o2 o3 is first e1 e2 e3 =
    e3
    ∙ ap (λ o. o ++ span_bytes at) (e2 ∙ ap (λ o. o ++ stmts_bytes (stmt_trees (map view_stmt us))) e1)
    ∙ append_assoc (old ++ 6 ∷ []) (stmts_bytes (stmt_trees (map view_stmt us))) (span_bytes at)
    ∙ append_assoc old (6 ∷ []) (stmts_bytes (stmt_trees (map view_stmt us)) ++ span_bytes at)
    ∙ ap (λ t. old ++ stmt_bytes t) (sym (loop_seen s xs at us is first))

pub loop_fits : (s : Stmt) (xs : Vec Stmt Global) (at : Span) (us : List Stmt) → s ≡ stmt.Loop xs at → us ≡ xs.items → FitsStmts (stmt_trees (map view_stmt us)) → FitsSpan at → FitsStmt (view_stmt s)
loop_fits s xs at us is first f g = subst FitsStmt (sym (loop_seen s xs at us is first)) (f, g)
