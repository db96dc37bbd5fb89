-- Of code that names no more than is allowed, the lists of what it names have no more.
use Rattle.std.proofs.Common.{◌≡◌, ℕ, subst, ◌⊎◌, inl, inr, Option, Some, None, List, [], ◌∷◌, ◌++◌}
use Rattle.std.specs.Prelude.{Contains}
use Rattle.std.proofs.lemmas.List.Elements.{Contains-append_cases}
use Rattle.pt_base.proofs.Members.{contains_cases, contains_nothing}
use Rattle.pt_core.specs.CodeTree.{RootTree, local, global, deref, PlaceTree, place, ExprTree, constant, read, unary, binary, convert, null, address, decay, move, compare, difference, ExprTrees, no_exprs, expr_and, StmtTree, clear, check, assign, copy, call, choose, repeat, break_out, continue_on, give_back, StmtTrees, no_stmts, stmt_and}
use Rattle.pt_core.specs.WellFormedStatement.{callees_in, callees_of}
use Rattle.lowered_code_law.specs.NamesNamed.{root_globals, place_globals, expr_globals, argument_globals, returned_globals, stmt_globals, globals_of}
use Rattle.lowered_code_law.proofs.NamesNaming.{Allowed, RootWithin, PlaceWithin, ExprWithin, ExprsWithin, ReturnWithin, StmtWithin, StmtsWithin}

-- a global that may be named
abbrev pub IsGlobal : Allowed → ℕ → Type 0
IsGlobal w g = Contains w.globals (record { 0 = g })

-- a function or host that may be called
abbrev pub IsCallee : Allowed → ℕ → Type 0
IsCallee w c = Contains w.callees (record { 0 = c })

abbrev pub GlobalsWithin : Allowed → List ℕ → Type 0
GlobalsWithin w gs = (g : ℕ) → Contains gs g → IsGlobal w g

abbrev pub CalleesWithin : Allowed → List ℕ → Type 0
CalleesWithin w cs = (c : ℕ) → Contains cs c → IsCallee w c

-- ---- lists

-- what holds of the members of two lists holds of those of both
both_lists : (P : ℕ → Type 0) (xs ys : List ℕ) → ((x : ℕ) → Contains xs x → P x) → ((x : ℕ) → Contains ys x → P x) → (x : ℕ) → Contains (xs ++ ys) x → P x
both_lists P xs ys h k x i = go (Contains-append_cases xs ys x i)
  where
    go : Contains xs x ⊎ Contains ys x → P x
    go (inl j) = h x j
    go (inr j) = k x j

one_listed : (P : ℕ → Type 0) (y : ℕ) → P y → (x : ℕ) → Contains (y ∷ []) x → P x
one_listed P y h x i = go (contains_cases y [] x i)
  where
    go : (y ≡ x) ⊎ Contains [] x → P x
    go (inl e) = subst P e h
    go (inr j) = absurd (contains_nothing x j)

none_listed : (P : ℕ → Type 0) (x : ℕ) → Contains [] x → P x
none_listed P x i = absurd (contains_nothing x i)

-- ---- globals

mutual
  root_listed : (root : RootTree) (w : Allowed) → RootWithin w root → GlobalsWithin w (root_globals root)
  root_listed (local v) w h = none_listed (IsGlobal w)
  root_listed (global g) w h = one_listed (IsGlobal w) g h
  root_listed (deref a s) w h = expr_listed a w h

  place_listed : (p : PlaceTree) (w : Allowed) → PlaceWithin w p → GlobalsWithin w (place_globals p)
  place_listed (place root path) w h = root_listed root w h

  expr_listed : (a : ExprTree) (w : Allowed) → ExprWithin w a → GlobalsWithin w (expr_globals a)
  expr_listed (constant t v) w h = none_listed (IsGlobal w)
  expr_listed (read p) w h = place_listed p w h
  expr_listed (unary op t a s) w h = expr_listed a w h
  expr_listed (binary op t a b s) w h = both_lists (IsGlobal w) (expr_globals a) (expr_globals b) (expr_listed a w h.0) (expr_listed b w h.1)
  expr_listed (convert t a) w h = expr_listed a w h
  expr_listed (null elem) w h = none_listed (IsGlobal w)
  expr_listed (address p) w h = place_listed p w h
  expr_listed (decay p) w h = place_listed p w h
  expr_listed (move a b back s) w h = both_lists (IsGlobal w) (expr_globals a) (expr_globals b) (expr_listed a w h.0) (expr_listed b w h.1)
  expr_listed (compare op a b s) w h = both_lists (IsGlobal w) (expr_globals a) (expr_globals b) (expr_listed a w h.0) (expr_listed b w h.1)
  expr_listed (difference a b s) w h = both_lists (IsGlobal w) (expr_globals a) (expr_globals b) (expr_listed a w h.0) (expr_listed b w h.1)

arguments_listed : (all : ExprTrees) (w : Allowed) → ExprsWithin w all → GlobalsWithin w (argument_globals all)
arguments_listed no_exprs w h = none_listed (IsGlobal w)
arguments_listed (expr_and a rest) w h = both_lists (IsGlobal w) (expr_globals a) (argument_globals rest) (expr_listed a w h.0) (arguments_listed rest w h.1)

returned_listed : (o : Option ExprTree) (w : Allowed) → ReturnWithin w o → GlobalsWithin w (returned_globals o)
returned_listed None w h = none_listed (IsGlobal w)
returned_listed (Some a) w h = expr_listed a w h

mutual
  stmt_listed : (x : StmtTree) (w : Allowed) → StmtWithin w x → GlobalsWithin w (stmt_globals x)
  stmt_listed (clear v) w h = none_listed (IsGlobal w)
  stmt_listed (check p) w h = place_listed p w h
  stmt_listed (assign p a) w h = both_lists (IsGlobal w) (place_globals p) (expr_globals a) (place_listed p w h.0) (expr_listed a w h.1)
  stmt_listed (copy p q) w h = both_lists (IsGlobal w) (place_globals p) (place_globals q) (place_listed p w h.0) (place_listed q w h.1)
  stmt_listed (call f arguments v s) w h = arguments_listed arguments w h.1
  stmt_listed (choose a xs ys) w h =
      both_lists (IsGlobal w) (expr_globals a) (globals_of xs ++ globals_of ys) (expr_listed a w h.0) (both_lists (IsGlobal w) (globals_of xs) (globals_of ys) (globals_listed xs w h.1) (globals_listed ys w h.2))
  stmt_listed (repeat xs s) w h = globals_listed xs w h
  stmt_listed break_out w h = none_listed (IsGlobal w)
  stmt_listed continue_on w h = none_listed (IsGlobal w)
  stmt_listed (give_back a) w h = returned_listed a w h

  pub globals_listed : (xs : StmtTrees) (w : Allowed) → StmtsWithin w xs → GlobalsWithin w (globals_of xs)
  globals_listed no_stmts w h = none_listed (IsGlobal w)
  globals_listed (stmt_and x rest) w h = both_lists (IsGlobal w) (stmt_globals x) (globals_of rest) (stmt_listed x w h.0) (globals_listed rest w h.1)

-- ---- calls

mutual
  callee_listed : (x : StmtTree) (w : Allowed) → StmtWithin w x → CalleesWithin w (callees_in x)
  callee_listed (clear v) w h = none_listed (IsCallee w)
  callee_listed (check p) w h = none_listed (IsCallee w)
  callee_listed (assign p a) w h = none_listed (IsCallee w)
  callee_listed (copy p q) w h = none_listed (IsCallee w)
  callee_listed (call f arguments v s) w h = one_listed (IsCallee w) f h.0
  callee_listed (choose a xs ys) w h = both_lists (IsCallee w) (callees_of xs) (callees_of ys) (callees_listed xs w h.1) (callees_listed ys w h.2)
  callee_listed (repeat xs s) w h = callees_listed xs w h
  callee_listed break_out w h = none_listed (IsCallee w)
  callee_listed continue_on w h = none_listed (IsCallee w)
  callee_listed (give_back a) w h = none_listed (IsCallee w)

  pub callees_listed : (xs : StmtTrees) (w : Allowed) → StmtsWithin w xs → CalleesWithin w (callees_of xs)
  callees_listed no_stmts w h = none_listed (IsCallee w)
  callees_listed (stmt_and x rest) w h = both_lists (IsCallee w) (callees_in x) (callees_of rest) (callee_listed x w h.0) (callees_listed rest w h.1)
