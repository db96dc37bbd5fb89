-- Whether code can be said depends only on the globals that it names and on what it calls.
use Rattle.std.proofs.Common.{◌≡◌, ◌∙◌, ℕ, refl, ap, Bool, Option, Some, List, [], ◌∷◌, ◌++◌}
use Rattle.std.specs.Prelude.{◌&&◌, ◌||◌, not}
use Rattle.pt_base.proofs.Members.{contains_first}
use Rattle.pt_tree.specs.declared.signature.Param.{Param}
use Rattle.pt_tree.specs.declared.signature.Signature.{Signature}
use Rattle.typed_tree.specs.declared.types.VarTy.{VarTy}
use Rattle.typed_tree.specs.declared.types.StructInfo.{StructInfo}
use Rattle.typed_tree.specs.TypeTests.{points_to_const}
use Rattle.typed_tree.specs.WellFormedExpression.{param_type}
use Rattle.pt_core.specs.CodeTree.{RootTree, local, global, deref, PlaceTree, place, ExprTree, constant, read, unary, binary, convert, null, address, decay, move, compare, difference, ExprTrees, no_exprs, expr_and, StmtTree, clear, check, assign, copy, call, choose, repeat, break_out, continue_on, give_back, StmtTrees, no_stmts, stmt_and}
use Rattle.pt_core.specs.Types.{place_type}
use Rattle.pt_core.specs.WellFormedStatement.{callees_in, callees_of}
use Rattle.lowered_code_law.specs.NamesNamed.{argument_globals, expr_globals, globals_of, place_globals, root_globals, stmt_globals}
use Rattle.split_law.proofs.Agreeing.{types, Agree, first, second, both_same, expr_type, object_type, Call, calls_first, calls_second}
use Rattle.half_meaning_law.specs.CForms.{is_null, stands, place_stands, points_const, is_const, is_const_root, with_const, keeps_const, is_stored, are_passed, params_of, is_struct, is_said, are_said}

-- ---- const

mutual
  points_same : (a : ExprTree) (ss : List StructInfo) (vs : List VarTy) (gs hs : List (ℕ × VarTy)) → Agree gs hs (expr_globals a) → points_const (types ss vs gs) a ≡ points_const (types ss vs hs) a
  points_same (constant t v) ss vs gs hs h = refl
  points_same (read p) ss vs gs hs h = ap (λ (ty : VarTy). points_to_const (Some ty)) (object_type p ss vs gs hs h)
  points_same (unary op t a s) ss vs gs hs h = refl
  points_same (binary op t a b s) ss vs gs hs h = refl
  points_same (convert t a) ss vs gs hs h = refl
  points_same (null elem) ss vs gs hs h = refl
  points_same (address p) ss vs gs hs h = const_same p ss vs gs hs h
  points_same (decay p) ss vs gs hs h = const_same p ss vs gs hs h
  points_same (move a b back s) ss vs gs hs h = points_same a ss vs gs hs (first gs hs (expr_globals a) (expr_globals b) h)
  points_same (compare op a b s) ss vs gs hs h = refl
  points_same (difference a b s) ss vs gs hs h = refl

  const_same : (p : PlaceTree) (ss : List StructInfo) (vs : List VarTy) (gs hs : List (ℕ × VarTy)) → Agree gs hs (place_globals p) → is_const (types ss vs gs) p ≡ is_const (types ss vs hs) p
  const_same (place root path) ss vs gs hs h = start_const root ss vs gs hs h

  start_const : (r : RootTree) (ss : List StructInfo) (vs : List VarTy) (gs hs : List (ℕ × VarTy)) → Agree gs hs (root_globals r) → is_const_root (types ss vs gs) r ≡ is_const_root (types ss vs hs) r
  start_const (local v) ss vs gs hs h = refl
  start_const (global g) ss vs gs hs h = refl
  start_const (deref a s) ss vs gs hs h = points_same a ss vs gs hs h

-- ---- what is stored and passed

stored_same : (a : ExprTree) (ss : List StructInfo) (vs : List VarTy) (gs hs : List (ℕ × VarTy)) (ty ty' : VarTy) → ty ≡ ty' → Agree gs hs (expr_globals a) → is_stored (types ss vs gs) ty a ≡ is_stored (types ss vs hs) ty' a
stored_same a ss vs gs hs ty ty' e h = λ i. is_null a || (stands a && keeps_const (with_const (points_same a ss vs gs hs h i) (expr_type a ss vs gs hs h i)) (e i))

passed_same : (as' : ExprTrees) (ps : List Param) (ss : List StructInfo) (vs : List VarTy) (gs hs : List (ℕ × VarTy)) → Agree gs hs (argument_globals as') → are_passed (types ss vs gs) ps as' ≡ are_passed (types ss vs hs) ps as'
passed_same no_exprs [] ss vs gs hs h = refl
passed_same no_exprs (p ∷ ps) ss vs gs hs h = refl
passed_same (expr_and a rest) [] ss vs gs hs h = refl
passed_same (expr_and a rest) (p ∷ ps) ss vs gs hs h =
    both_same (stored_same a ss vs gs hs (param_type p.kind) (param_type p.kind) refl (first gs hs (expr_globals a) (argument_globals rest) h)) (passed_same rest ps ss vs gs hs (second gs hs (expr_globals a) (argument_globals rest) h))

-- ---- statements

mutual
  stmt_same : (a : StmtTree) (ss : List StructInfo) (vs : List VarTy) (gs hs : List (ℕ × VarTy)) (c d : ℕ → Option Signature) → Agree gs hs (stmt_globals a) → Call c d (callees_in a) → is_said (types ss vs gs) c a ≡ is_said (types ss vs hs) d a
  stmt_same (clear v) ss vs gs hs c d h k = refl
  stmt_same (check p) ss vs gs hs c d h k = refl
  stmt_same (assign p a) ss vs gs hs c d h k =
      let at = first gs hs (place_globals p) (expr_globals a) h in
      ap (λ (b : Bool). place_stands p && b)
      (both_same (ap not (const_same p ss vs gs hs at)) (stored_same a ss vs gs hs (place_type (types ss vs gs) p) (place_type (types ss vs hs) p) (object_type p ss vs gs hs at) (second gs hs (place_globals p) (expr_globals a) h)))
  stmt_same (copy p q) ss vs gs hs c d h k =
      let at = first gs hs (place_globals p) (place_globals q) h in
      ap (λ (b : Bool). (place_stands p && place_stands q) && b) (both_same (ap not (const_same p ss vs gs hs at)) (ap is_struct (object_type p ss vs gs hs at)))
  stmt_same (call f arguments v s) ss vs gs hs c d h k =
      ap (λ (o : Option Signature). are_passed (types ss vs gs) (params_of o) arguments) (k f (contains_first f [])) ∙ passed_same arguments (params_of (d f)) ss vs gs hs h
  stmt_same (choose a xs ys) ss vs gs hs c d h k =
      let rest = second gs hs (expr_globals a) (globals_of xs ++ globals_of ys) h in
      ap (λ (b : Bool). (is_null a || stands a) && b)
      (both_same (stmts_same xs ss vs gs hs c d (first gs hs (globals_of xs) (globals_of ys) rest) (calls_first c d (callees_of xs) (callees_of ys) k))
      (stmts_same ys ss vs gs hs c d (second gs hs (globals_of xs) (globals_of ys) rest) (calls_second c d (callees_of xs) (callees_of ys) k)))
  stmt_same (repeat xs s) ss vs gs hs c d h k = stmts_same xs ss vs gs hs c d h k
  stmt_same break_out ss vs gs hs c d h k = refl
  stmt_same continue_on ss vs gs hs c d h k = refl
  stmt_same (give_back a) ss vs gs hs c d h k = refl

  pub stmts_same : (xs : StmtTrees) (ss : List StructInfo) (vs : List VarTy) (gs hs : List (ℕ × VarTy)) (c d : ℕ → Option Signature) → Agree gs hs (globals_of xs) → Call c d (callees_of xs) → are_said (types ss vs gs) c xs ≡ are_said (types ss vs hs) d xs
  stmts_same no_stmts ss vs gs hs c d h k = refl
  stmts_same (stmt_and a rest) ss vs gs hs c d h k =
      both_same (stmt_same a ss vs gs hs c d (first gs hs (stmt_globals a) (globals_of rest) h) (calls_first c d (callees_in a) (callees_of rest) k))
      (stmts_same rest ss vs gs hs c d (second gs hs (stmt_globals a) (globals_of rest) h) (calls_second c d (callees_in a) (callees_of rest) k))
