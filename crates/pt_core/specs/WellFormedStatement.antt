-- Which statements are well formed: what is stored, passed and returned has the type of what it goes to,
-- and no `break` and no `continue` stands outside of loops.
use Rattle.std.specs.Prelude.{ℕ, List, [], ◌∷◌, ◌++◌, Option, Some, None, Bool, true, false, ◌&&◌, not, nat_lt, length, is_none, option_map}
use Rattle.pt_base.specs.declared.int_type.IntType.{IntType}
use Rattle.pt_tree.specs.declared.signature.Param.{Param}
use Rattle.pt_tree.specs.declared.signature.Signature.{Signature}
use Rattle.typed_tree.specs.declared.types.VarTy.{VarTy}
use Rattle.typed_tree.specs.declared.types.VarTy.TheVariants.{Int, Struct, Array, Pointer}
use Rattle.typed_tree.specs.TypeTests.{same_type, same_types, both_int, integer_of, is_scalar}
use Rattle.typed_tree.specs.WellFormedExpression.{param_type, is_main}
use Rattle.pt_core.specs.CodeTree.{ExprTree, StmtTree, clear, check, assign, copy, call, choose, repeat, break_out, continue_on, give_back, ExprTrees, no_exprs, expr_and, StmtTrees, no_stmts, stmt_and}
use Rattle.pt_core.specs.Types.{Context, type_at, type_of, place_type}
use Rattle.pt_core.specs.WellFormedExpression.{stands_for, expr_fits, place_fits}

-- What the statements of a function are tested by: its types and its result, None being void, and what a
-- function is called with by its number, None where no function has it.
pub record Scope : Type 0 where
  pub context : Context
  pub result : Option IntType
  pub called : ℕ → Option Signature

-- an expression of a type that may stand there
abbrev pub value_fits : Context → VarTy → ExprTree → Bool
value_fits c ty a = expr_fits c a && stands_for (type_of c a) ty

-- an object of more than one cell: a struct or an array
abbrev pub is_compound : VarTy → Bool
is_compound (Int t) = false
is_compound (Struct n) = true
is_compound (Array elem count) = true
is_compound (Pointer elem fixed) = false

-- one argument for each parameter
abbrev pub arguments_fit : Context → List Param → ExprTrees → Bool
arguments_fit c [] no_exprs = true
arguments_fit c [] (expr_and a rest) = false
arguments_fit c (p ∷ ps) no_exprs = false
arguments_fit c (p ∷ ps) (expr_and a rest) = value_fits c (param_type p.kind) a && arguments_fit c ps rest

-- a result of this type, None being void, may be left, or goes to a variable of its type
abbrev pub result_fits : Context → Option IntType → Option ℕ → Bool
result_fits c result None = true
result_fits c result (Some v) = nat_lt v (length c.variables) && same_types (option_map Int result) (Some (type_at c.variables v))

-- a call of a function other than main, if there is such a function
abbrev pub call_fits : Context → Option Signature → ExprTrees → Option ℕ → Bool
call_fits c None arguments v = false
call_fits c (Some s) arguments v = not (is_main s) && (arguments_fit c s.params arguments && result_fits c s.result v)

-- what is returned is of the function's result
abbrev pub return_fits : Scope → Option ExprTree → Bool
return_fits k None = is_none k.result
return_fits k (Some a) = expr_fits k.context a && both_int (integer_of (Some (type_of k.context a))) k.result

abbrev mutual
  -- a statement; the test tells whether it stands in a loop
  pub stmt_fits : Scope → Bool → StmtTree → Bool
  stmt_fits k looped (clear v) = nat_lt v (length k.context.variables)
  stmt_fits k looped (check p) = place_fits k.context p
  stmt_fits k looped (assign p a) = place_fits k.context p && (is_scalar (Some (place_type k.context p)) && value_fits k.context (place_type k.context p) a)
  stmt_fits k looped (copy p q) = (place_fits k.context p && place_fits k.context q) && (is_compound (place_type k.context p) && same_type (place_type k.context p) (place_type k.context q))
  stmt_fits k looped (call f arguments v s) = call_fits k.context (k.called f) arguments v
  stmt_fits k looped (choose a xs ys) = (expr_fits k.context a && is_scalar (Some (type_of k.context a))) && (stmts_fit k looped xs && stmts_fit k looped ys)
  stmt_fits k looped (repeat xs s) = stmts_fit k true xs
  stmt_fits k looped break_out = looped
  stmt_fits k looped continue_on = looped
  stmt_fits k looped (give_back a) = return_fits k a

  pub stmts_fit : Scope → Bool → StmtTrees → Bool
  stmts_fit k looped no_stmts = true
  stmts_fit k looped (stmt_and a rest) = stmt_fits k looped a && stmts_fit k looped rest

abbrev mutual
  -- the functions and hosts that are called, by number
  pub callees_in : StmtTree → List ℕ
  callees_in (clear v) = []
  callees_in (check p) = []
  callees_in (assign p a) = []
  callees_in (copy p q) = []
  callees_in (call f arguments v s) = f ∷ []
  callees_in (choose a xs ys) = callees_of xs ++ callees_of ys
  callees_in (repeat xs s) = callees_of xs
  callees_in break_out = []
  callees_in continue_on = []
  callees_in (give_back a) = []

  pub callees_of : StmtTrees → List ℕ
  callees_of no_stmts = []
  callees_of (stmt_and a rest) = callees_in a ++ callees_of rest
