-- The globals that code of the normal form names: in any place, at any depth.
use Rattle.std.specs.Prelude.{ℕ, List, [], ◌∷◌, ◌++◌, Option, None, Some}
use Rattle.pt_core.specs.CodeTree.{RootTree, local, global, deref, PlaceTree, place, ExprTree, constant, read, unary, binary, convert, null, address, decay, move, compare, difference, ExprTrees, no_exprs, expr_and, StmtTree, clear, check, assign, copy, call, choose, repeat, break_out, continue_on, give_back, StmtTrees, no_stmts, stmt_and}

abbrev mutual
  pub root_globals : RootTree → List ℕ
  root_globals (local v) = []
  root_globals (global g) = g ∷ []
  root_globals (deref a s) = expr_globals a

  pub place_globals : PlaceTree → List ℕ
  place_globals (place root path) = root_globals root

  pub expr_globals : ExprTree → List ℕ
  expr_globals (constant t v) = []
  expr_globals (read p) = place_globals p
  expr_globals (unary op t a s) = expr_globals a
  expr_globals (binary op t a b s) = expr_globals a ++ expr_globals b
  expr_globals (convert t a) = expr_globals a
  expr_globals (null elem) = []
  expr_globals (address p) = place_globals p
  expr_globals (decay p) = place_globals p
  expr_globals (move a b back s) = expr_globals a ++ expr_globals b
  expr_globals (compare op a b s) = expr_globals a ++ expr_globals b
  expr_globals (difference a b s) = expr_globals a ++ expr_globals b

abbrev pub argument_globals : ExprTrees → List ℕ
argument_globals no_exprs = []
argument_globals (expr_and a rest) = expr_globals a ++ argument_globals rest

abbrev pub returned_globals : Option ExprTree → List ℕ
returned_globals None = []
returned_globals (Some a) = expr_globals a

abbrev mutual
  pub stmt_globals : StmtTree → List ℕ
  stmt_globals (clear v) = []
  stmt_globals (check p) = place_globals p
  stmt_globals (assign p a) = place_globals p ++ expr_globals a
  stmt_globals (copy p q) = place_globals p ++ place_globals q
  stmt_globals (call f arguments v s) = argument_globals arguments
  stmt_globals (choose a xs ys) = expr_globals a ++ (globals_of xs ++ globals_of ys)
  stmt_globals (repeat xs s) = globals_of xs
  stmt_globals break_out = []
  stmt_globals continue_on = []
  stmt_globals (give_back a) = returned_globals a

  pub globals_of : StmtTrees → List ℕ
  globals_of no_stmts = []
  globals_of (stmt_and a rest) = stmt_globals a ++ globals_of rest
