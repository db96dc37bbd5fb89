-- Code of the normal form without the places of the text that it tells.
use Rattle.std.specs.Prelude.{map, option_map}
use Rattle.pt_core.specs.CodeTree.{RootTree, local, global, deref, PlaceTree, place, ExprTree, constant, read, unary, binary, convert, null, address, decay, move, compare, difference, ExprTrees, no_exprs, expr_and, StmtTree, clear, check, assign, copy, call, choose, repeat, break_out, continue_on, give_back, StmtTrees, no_stmts, stmt_and, FunctionTree}
use Rattle.lowered_code_law.specs.PlacesBareTrees.{bare_var, nowhere}

abbrev mutual
  pub bare_start : RootTree → RootTree
  bare_start (local v) = local v
  bare_start (global g) = global g
  bare_start (deref a at) = deref (bare_value a) nowhere

  pub bare_target : PlaceTree → PlaceTree
  bare_target (place root path) = place (bare_start root) path

  pub bare_value : ExprTree → ExprTree
  bare_value (constant t v) = constant t v
  bare_value (read p) = read (bare_target p)
  bare_value (unary op t a at) = unary op t (bare_value a) nowhere
  bare_value (binary op t a b at) = binary op t (bare_value a) (bare_value b) nowhere
  bare_value (convert t a) = convert t (bare_value a)
  bare_value (null elem) = null elem
  bare_value (address p) = address (bare_target p)
  bare_value (decay p) = decay (bare_target p)
  bare_value (move a b back at) = move (bare_value a) (bare_value b) back nowhere
  bare_value (compare op a b at) = compare op (bare_value a) (bare_value b) nowhere
  bare_value (difference a b at) = difference (bare_value a) (bare_value b) nowhere

abbrev pub bare_values : ExprTrees → ExprTrees
bare_values no_exprs = no_exprs
bare_values (expr_and a rest) = expr_and (bare_value a) (bare_values rest)

abbrev mutual
  pub bare_stmt : StmtTree → StmtTree
  bare_stmt (clear v) = clear v
  bare_stmt (check p) = check (bare_target p)
  bare_stmt (assign p a) = assign (bare_target p) (bare_value a)
  bare_stmt (copy p q) = copy (bare_target p) (bare_target q)
  bare_stmt (call f arguments v at) = call f (bare_values arguments) v nowhere
  bare_stmt (choose a xs ys) = choose (bare_value a) (bare_stmts xs) (bare_stmts ys)
  bare_stmt (repeat xs at) = repeat (bare_stmts xs) nowhere
  bare_stmt break_out = break_out
  bare_stmt continue_on = continue_on
  bare_stmt (give_back a) = give_back (option_map bare_value a)

  pub bare_stmts : StmtTrees → StmtTrees
  bare_stmts no_stmts = no_stmts
  bare_stmts (stmt_and x rest) = stmt_and (bare_stmt x) (bare_stmts rest)

abbrev pub bare_code : FunctionTree → FunctionTree
bare_code f = record { id = f.id; params = f.params; vars = map bare_var f.vars; body = bare_stmts f.body; end = nowhere }
