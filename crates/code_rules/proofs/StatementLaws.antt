-- Statements by the types of their parts.
use Rattle.std.proofs.Common.{◌≡◌, ◌∙◌, ℕ, List, [], ◌∷◌, Bool, true, false, ◌&&◌, ◌==◌, Option, Some, None, is_some, option_map, refl, sym, ap, arith, length, map, nat_lt, drop, get_or, ◌+◌, ◌<◌}
use Rattle.std.specs.Bool.{then_some}
use Rattle.pt_base.specs.declared.int_type.IntType.{IntType}
use Rattle.pt_base.proofs.Places.{drop_step_at}
use Rattle.pt_tree.specs.declared.signature.Param.{Param}
use Rattle.typed_tree.specs.declared.types.VarTy.{VarTy}
use Rattle.typed_tree.specs.declared.types.VarTy.TheVariants.{Int}
use Rattle.typed_tree.specs.TypeTests.{both_int, integer_of, is_scalar, same_type, same_types}
use Rattle.typed_tree.specs.WellFormedExpression.{param_type}
use Rattle.pt_core.specs.declared.expression.Expr.{Expr}
use Rattle.pt_core.specs.declared.statement.Stmt.{Stmt}
use Rattle.pt_core.specs.CodeTree.{ExprTree, PlaceTree, no_exprs, local, expr_trees, stmt_trees, view_expr, view_stmt}
use Rattle.pt_core.specs.Types.{Context, type_at, type_of, place_type}
use Rattle.pt_core.specs.WellFormedExpression.{expr_fits, place_fits, stands_for}
use Rattle.pt_core.specs.WellFormedStatement.{Scope, is_compound, value_fits, arguments_fit, result_fits, stmt_fits, stmts_fit}
use Rattle.code_rules.specs.Parts.{stands, stores, copies, receives}
use Rattle.code_rules.specs.Typing.{typed, placed, rooted}

-- ---- over tests and types

stands_by : (a : Bool) (x wanted : VarTy) → stands wanted (then_some a x) ≡ (a && stands_for x wanted)
stands_by true x wanted = refl
stands_by false x wanted = refl

check_by : (a : Bool) (x : VarTy) → is_some (then_some a x) ≡ a
check_by true x = refl
check_by false x = refl

store_by : (a b : Bool) (x y : VarTy) → stores (then_some a x) (then_some b y) ≡ (a && (is_scalar (Some x) && (b && stands_for y x)))
store_by true b x y = ap (λ h. is_scalar (Some x) && h) (stands_by b y x)
store_by false b x y = refl

copy_by : (a b : Bool) (x y : VarTy) → copies (then_some a x) (then_some b y) ≡ ((a && b) && (is_compound x && same_type x y))
copy_by true true x y = refl
copy_by true false x y = refl
copy_by false true x y = refl
copy_by false false x y = refl

scalar_by : (a : Bool) (x : VarTy) → is_scalar (then_some a x) ≡ (a && is_scalar (Some x))
scalar_by true x = refl
scalar_by false x = refl

return_by : (a : Bool) (x : VarTy) (r : Option IntType) → both_int (integer_of (then_some a x)) r ≡ (a && both_int (integer_of (Some x)) r)
return_by true x r = refl
return_by false x None = refl
return_by false x (Some t) = refl

receive_by : (a : Bool) (x : VarTy) (r : Option IntType) → receives r (then_some a x) ≡ (a && same_types (option_map Int r) (Some x))
receive_by true x r = refl
receive_by false x r = refl

-- ---- statements

pub value_is : (c : Context) (wanted : VarTy) (a : ExprTree) → stands wanted (typed c a) ≡ value_fits c wanted a
unfolding typed
value_is c wanted a = stands_by (expr_fits c a) (type_of c a) wanted

pub check_is : (c : Context) (p : PlaceTree) → is_some (placed c p) ≡ place_fits c p
unfolding placed
check_is c p = check_by (place_fits c p) (place_type c p)

pub store_is : (c : Context) (p : PlaceTree) (a : ExprTree) → stores (placed c p) (typed c a) ≡ (place_fits c p && (is_scalar (Some (place_type c p)) && value_fits c (place_type c p) a))
unfolding typed placed
store_is c p a = store_by (place_fits c p) (expr_fits c a) (place_type c p) (type_of c a)

pub copy_is : (c : Context) (p q : PlaceTree) → copies (placed c p) (placed c q) ≡ ((place_fits c p && place_fits c q) && (is_compound (place_type c p) && same_type (place_type c p) (place_type c q)))
unfolding placed
copy_is c p q = copy_by (place_fits c p) (place_fits c q) (place_type c p) (place_type c q)

pub condition_is : (c : Context) (a : ExprTree) → is_scalar (typed c a) ≡ (expr_fits c a && is_scalar (Some (type_of c a)))
unfolding typed
condition_is c a = scalar_by (expr_fits c a) (type_of c a)

pub return_is : (c : Context) (a : ExprTree) (r : Option IntType) → both_int (integer_of (typed c a)) r ≡ (expr_fits c a && both_int (integer_of (Some (type_of c a))) r)
unfolding typed
return_is c a r = return_by (expr_fits c a) (type_of c a) r

pub receiver_is : (c : Context) (r : Option IntType) (v : ℕ) → receives r (rooted c (local v)) ≡ result_fits c r (Some v)
unfolding rooted
receiver_is c r v = receive_by (nat_lt v (length c.variables)) (type_at c.variables v) r

-- ---- arguments

pub arguments_end : (c : Context) (params : List Param) → (length params == 0) ≡ arguments_fit c params no_exprs
arguments_end c [] = refl
arguments_end c (p ∷ ps) = grind arith

pub arguments_next : (c : Context) (p : Param) (after : List Param) (xs : List Expr) (i : ℕ) (x : Expr) (n all : Bool) → i < length xs → x ≡ get_or xs i x → n ≡ value_fits c (param_type p.kind) (view_expr x) → n ≡ true →
    arguments_fit c (p ∷ after) (expr_trees (map view_expr (drop i xs))) ≡ all → arguments_fit c after (expr_trees (map view_expr (drop (i + 1) xs))) ≡ all
arguments_next c p after xs i x n all below is fits holds h =
    ap (λ b. b && arguments_fit c after (expr_trees (map view_expr (drop (i + 1) xs)))) (sym holds ∙ fits)
    ∙ sym (ap (λ ys. arguments_fit c (p ∷ after) (expr_trees (map view_expr ys))) (drop_step_at xs i x below is)) ∙ h

pub arguments_stop : (c : Context) (p : Param) (after : List Param) (xs : List Expr) (i : ℕ) (x : Expr) (n all : Bool) → i < length xs → x ≡ get_or xs i x → n ≡ value_fits c (param_type p.kind) (view_expr x) → n ≡ false →
    arguments_fit c (p ∷ after) (expr_trees (map view_expr (drop i xs))) ≡ all → false ≡ all
arguments_stop c p after xs i x n all below is fits fails h =
    ap (λ b. b && arguments_fit c after (expr_trees (map view_expr (drop (i + 1) xs)))) (sym fails ∙ fits)
    ∙ sym (ap (λ ys. arguments_fit c (p ∷ after) (expr_trees (map view_expr ys))) (drop_step_at xs i x below is)) ∙ h

-- ---- lists of statements

pub statements_next : (k : Scope) (looped : Bool) (xs : List Stmt) (i : ℕ) (x : Stmt) (n all : Bool) → i < length xs → x ≡ get_or xs i x → n ≡ stmt_fits k looped (view_stmt x) → n ≡ true →
    stmts_fit k looped (stmt_trees (map view_stmt (drop i xs))) ≡ all → stmts_fit k looped (stmt_trees (map view_stmt (drop (i + 1) xs))) ≡ all
statements_next k looped xs i x n all below is fits holds h =
    ap (λ b. b && stmts_fit k looped (stmt_trees (map view_stmt (drop (i + 1) xs)))) (sym holds ∙ fits)
    ∙ sym (ap (λ ys. stmts_fit k looped (stmt_trees (map view_stmt ys))) (drop_step_at xs i x below is)) ∙ h

-- ---- two branches

pub all_hold : (p q r : Bool) → true ≡ p → true ≡ q → r ≡ (p && (q && r))
all_hold p q r h k = ap (λ b. b && r) k ∙ ap (λ b. b && (q && r)) h

pub first_fails : (p q : Bool) → false ≡ p → false ≡ (p && q)
first_fails p q h = ap (λ b. b && q) h

pub second_fails : (p q r : Bool) → true ≡ p → false ≡ q → false ≡ (p && (q && r))
second_fails p q r h k = ap (λ b. b && r) k ∙ ap (λ b. b && (q && r)) h
