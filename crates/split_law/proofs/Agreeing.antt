-- Whether code is well formed depends only on the globals that it names and on what it calls.
use Rattle.std.proofs.Common.{◌≡◌, ◌∙◌, ℕ, refl, ap, Bool, true, false, Option, Some, None, List, [], ◌∷◌, ◌++◌}
use Rattle.std.specs.Prelude.{◌&&◌, not, nat_eq, is_some, unwrap_or}
use Rattle.std.specs.List.{Contains}
use Rattle.std.specs.Map.{lookup}
use Rattle.std.proofs.lemmas.List.Elements.{Contains-append_left, Contains-append_right}
use Rattle.pt_base.specs.declared.int_type.IntType.{IntType}
use Rattle.pt_base.specs.declared.int_type.IntType.TheVariants as int
use Rattle.pt_base.proofs.Members.{contains_first}
use Rattle.pt_tree.specs.declared.signature.Param.{Param}
use Rattle.pt_tree.specs.declared.signature.Signature.{Signature}
use Rattle.typed_tree.specs.declared.types.VarTy.{VarTy}
use Rattle.typed_tree.specs.declared.types.VarTy.TheVariants.{Int, Pointer}
use Rattle.typed_tree.specs.declared.types.StructInfo.{StructInfo}
use Rattle.typed_tree.specs.declared.link.LinkStep.TheVariants.{Move, Difference, Compare}
use Rattle.typed_tree.specs.TypeTests as tests
use Rattle.typed_tree.specs.TypeTests.{both_int, integer_of, is_scalar, item_of, pointee_of, same_type}
use Rattle.typed_tree.specs.TypeRules.{stepped}
use Rattle.typed_tree.specs.WellFormedExpression.{is_main, param_type}
use Rattle.pt_core.specs.CodeTree.{RootTree, local, global, deref, PlaceTree, place, ExprTree, constant, read, unary, binary, convert, null, address, decay, move, compare, difference, ExprTrees, no_exprs, expr_and, StmtTree, clear, check, assign, copy, call, choose, repeat, break_out, continue_on, give_back, StmtTrees, no_stmts, stmt_and}
use Rattle.pt_core.specs.Types.{Context, element_of, path_type, place_type, pointee_type, root_type, type_of}
use Rattle.pt_core.specs.WellFormedExpression.{expr_fits, is_addressed, is_path, place_fits, root_fits, stands_for, takes_one, takes_two}
use Rattle.pt_core.specs.WellFormedStatement.{Scope, arguments_fit, call_fits, callees_in, callees_of, is_compound, result_fits, stmt_fits, stmts_fit, value_fits}
use Rattle.lowered_code_law.specs.NamesNamed.{argument_globals, expr_globals, globals_of, place_globals, root_globals, stmt_globals}

abbrev pub types : List StructInfo → List VarTy → List (ℕ × VarTy) → Context
types structs vars gs = record { structs = structs; globals = gs; variables = vars }

-- both lists of globals say the same of each of these numbers
abbrev pub Agree : List (ℕ × VarTy) → List (ℕ × VarTy) → List ℕ → Type 0
Agree gs hs ns = (n : ℕ) → Contains ns n → lookup (nat_eq n) gs ≡ lookup (nat_eq n) hs

pub first : (gs hs : List (ℕ × VarTy)) (ms ns : List ℕ) → Agree gs hs (ms ++ ns) → Agree gs hs ms
first gs hs ms ns h n c = h n (Contains-append_left ms ns n c)

pub second : (gs hs : List (ℕ × VarTy)) (ms ns : List ℕ) → Agree gs hs (ms ++ ns) → Agree gs hs ns
second gs hs ms ns h n c = h n (Contains-append_right ms ns n c)

pub both_same : {a b c d : Bool} → a ≡ b → c ≡ d → (a && c) ≡ (b && d)
both_same e f = λ i. e i && f i

-- ---- types

mutual
  pub expr_type : (a : ExprTree) (ss : List StructInfo) (vs : List VarTy) (gs hs : List (ℕ × VarTy)) → Agree gs hs (expr_globals a) → type_of (types ss vs gs) a ≡ type_of (types ss vs hs) a
  expr_type (constant t v) ss vs gs hs h = refl
  expr_type (read p) ss vs gs hs h = object_type p ss vs gs hs h
  expr_type (unary op t a s) ss vs gs hs h = refl
  expr_type (binary op t a b s) ss vs gs hs h = refl
  expr_type (convert t a) ss vs gs hs h = refl
  expr_type (null elem) ss vs gs hs h = refl
  expr_type (address p) ss vs gs hs h = ap (λ (ty : VarTy). Pointer (element_of ty) false) (object_type p ss vs gs hs h)
  expr_type (decay p) ss vs gs hs h = ap (λ (ty : VarTy). Pointer (element_of ty) false) (object_type p ss vs gs hs h)
  expr_type (move a b back s) ss vs gs hs h = expr_type a ss vs gs hs (first gs hs (expr_globals a) (expr_globals b) h)
  expr_type (compare op a b s) ss vs gs hs h = refl
  expr_type (difference a b s) ss vs gs hs h = refl

  pub object_type : (p : PlaceTree) (ss : List StructInfo) (vs : List VarTy) (gs hs : List (ℕ × VarTy)) → Agree gs hs (place_globals p) → place_type (types ss vs gs) p ≡ place_type (types ss vs hs) p
  object_type (place root path) ss vs gs hs h = ap (λ (ty : VarTy). path_type ss ty path) (start_type root ss vs gs hs h)

  pub start_type : (r : RootTree) (ss : List StructInfo) (vs : List VarTy) (gs hs : List (ℕ × VarTy)) → Agree gs hs (root_globals r) → root_type (types ss vs gs) r ≡ root_type (types ss vs hs) r
  start_type (local v) ss vs gs hs h = refl
  start_type (global g) ss vs gs hs h = ap (λ (o : Option VarTy). unwrap_or o (Int int.Int)) (h g (contains_first g []))
  start_type (deref a s) ss vs gs hs h = ap pointee_type (expr_type a ss vs gs hs h)

-- ---- expressions

mutual
  expr_same : (a : ExprTree) (ss : List StructInfo) (vs : List VarTy) (gs hs : List (ℕ × VarTy)) → Agree gs hs (expr_globals a) → expr_fits (types ss vs gs) a ≡ expr_fits (types ss vs hs) a
  expr_same (constant t v) ss vs gs hs h = refl
  expr_same (read p) ss vs gs hs h = both_same (object_same p ss vs gs hs h) (ap (λ (ty : VarTy). is_scalar (Some ty)) (object_type p ss vs gs hs h))
  expr_same (unary op t a s) ss vs gs hs h = both_same (expr_same a ss vs gs hs h) (ap (takes_one op t) (expr_type a ss vs gs hs h))
  expr_same (binary op t a b s) ss vs gs hs h =
      let l = first gs hs (expr_globals a) (expr_globals b) h in
      let r = second gs hs (expr_globals a) (expr_globals b) h in
      both_same (both_same (expr_same a ss vs gs hs l) (expr_same b ss vs gs hs r)) (λ i. takes_two op t (expr_type a ss vs gs hs l i) (expr_type b ss vs gs hs r i))
  expr_same (convert t a) ss vs gs hs h = both_same (expr_same a ss vs gs hs h) (ap (λ (ty : VarTy). is_some (integer_of (Some ty))) (expr_type a ss vs gs hs h))
  expr_same (null elem) ss vs gs hs h = refl
  expr_same (address p) ss vs gs hs h = both_same (object_same p ss vs gs hs h) (ap (λ (ty : VarTy). is_addressed p && is_some (tests.element_of (Some ty))) (object_type p ss vs gs hs h))
  expr_same (decay p) ss vs gs hs h = both_same (object_same p ss vs gs hs h) (ap (λ (ty : VarTy). is_some (item_of (Some ty))) (object_type p ss vs gs hs h))
  expr_same (move a b back s) ss vs gs hs h =
      let l = first gs hs (expr_globals a) (expr_globals b) h in
      let r = second gs hs (expr_globals a) (expr_globals b) h in
      both_same (both_same (expr_same a ss vs gs hs l) (expr_same b ss vs gs hs r)) (λ i. is_some (stepped (Some (expr_type a ss vs gs hs l i)) (Move back) (Some (expr_type b ss vs gs hs r i))))
  expr_same (compare op a b s) ss vs gs hs h =
      let l = first gs hs (expr_globals a) (expr_globals b) h in
      let r = second gs hs (expr_globals a) (expr_globals b) h in
      both_same (both_same (expr_same a ss vs gs hs l) (expr_same b ss vs gs hs r)) (λ i. is_some (stepped (Some (expr_type a ss vs gs hs l i)) (Compare op) (Some (expr_type b ss vs gs hs r i))))
  expr_same (difference a b s) ss vs gs hs h =
      let l = first gs hs (expr_globals a) (expr_globals b) h in
      let r = second gs hs (expr_globals a) (expr_globals b) h in
      both_same (both_same (expr_same a ss vs gs hs l) (expr_same b ss vs gs hs r)) (λ i. is_some (stepped (Some (expr_type a ss vs gs hs l i)) Difference (Some (expr_type b ss vs gs hs r i))))

  object_same : (p : PlaceTree) (ss : List StructInfo) (vs : List VarTy) (gs hs : List (ℕ × VarTy)) → Agree gs hs (place_globals p) → place_fits (types ss vs gs) p ≡ place_fits (types ss vs hs) p
  object_same (place root path) ss vs gs hs h = both_same (start_same root ss vs gs hs h) (ap (λ (ty : VarTy). is_path ss ty path) (start_type root ss vs gs hs h))

  start_same : (r : RootTree) (ss : List StructInfo) (vs : List VarTy) (gs hs : List (ℕ × VarTy)) → Agree gs hs (root_globals r) → root_fits (types ss vs gs) r ≡ root_fits (types ss vs hs) r
  start_same (local v) ss vs gs hs h = refl
  start_same (global g) ss vs gs hs h = ap is_some (h g (contains_first g []))
  start_same (deref a s) ss vs gs hs h = both_same (expr_same a ss vs gs hs h) (ap (λ (ty : VarTy). is_some (pointee_of (Some ty))) (expr_type a ss vs gs hs h))

-- ---- statements

value_same : (a : ExprTree) (ss : List StructInfo) (vs : List VarTy) (gs hs : List (ℕ × VarTy)) (ty ty' : VarTy) → ty ≡ ty' → Agree gs hs (expr_globals a) → value_fits (types ss vs gs) ty a ≡ value_fits (types ss vs hs) ty' a
value_same a ss vs gs hs ty ty' e h = both_same (expr_same a ss vs gs hs h) (λ i. stands_for (expr_type a ss vs gs hs h i) (e i))

arguments_same : (as' : ExprTrees) (ps : List Param) (ss : List StructInfo) (vs : List VarTy) (gs hs : List (ℕ × VarTy)) → Agree gs hs (argument_globals as') → arguments_fit (types ss vs gs) ps as' ≡ arguments_fit (types ss vs hs) ps as'
arguments_same no_exprs [] ss vs gs hs h = refl
arguments_same no_exprs (p ∷ ps) ss vs gs hs h = refl
arguments_same (expr_and a rest) [] ss vs gs hs h = refl
arguments_same (expr_and a rest) (p ∷ ps) ss vs gs hs h =
    both_same (value_same a ss vs gs hs (param_type p.kind) (param_type p.kind) refl (first gs hs (expr_globals a) (argument_globals rest) h)) (arguments_same rest ps ss vs gs hs (second gs hs (expr_globals a) (argument_globals rest) h))

result_same : (v : Option ℕ) (r : Option IntType) (ss : List StructInfo) (vs : List VarTy) (gs hs : List (ℕ × VarTy)) → result_fits (types ss vs gs) r v ≡ result_fits (types ss vs hs) r v
result_same None r ss vs gs hs = refl
result_same (Some v) r ss vs gs hs = refl

call_same : (o : Option Signature) (as' : ExprTrees) (v : Option ℕ) (ss : List StructInfo) (vs : List VarTy) (gs hs : List (ℕ × VarTy)) → Agree gs hs (argument_globals as') → call_fits (types ss vs gs) o as' v ≡ call_fits (types ss vs hs) o as' v
call_same None as' v ss vs gs hs h = refl
call_same (Some s) as' v ss vs gs hs h = ap (λ (b : Bool). not (is_main s) && b) (both_same (arguments_same as' s.params ss vs gs hs h) (result_same v s.result ss vs gs hs))

abbrev pub scope : List StructInfo → List VarTy → Option IntType → List (ℕ × VarTy) → (ℕ → Option Signature) → Scope
scope ss vs r gs called = record { context = types ss vs gs; result = r; called = called }

-- both say the same of what is called by these numbers
abbrev pub Call : (ℕ → Option Signature) → (ℕ → Option Signature) → List ℕ → Type 0
Call c d ns = (n : ℕ) → Contains ns n → c n ≡ d n

pub calls_first : (c d : ℕ → Option Signature) (ms ns : List ℕ) → Call c d (ms ++ ns) → Call c d ms
calls_first c d ms ns h n i = h n (Contains-append_left ms ns n i)

pub calls_second : (c d : ℕ → Option Signature) (ms ns : List ℕ) → Call c d (ms ++ ns) → Call c d ns
calls_second c d ms ns h n i = h n (Contains-append_right ms ns n i)

mutual
  stmt_same : (a : StmtTree) (l : Bool) (ss : List StructInfo) (vs : List VarTy) (r : Option IntType) (gs hs : List (ℕ × VarTy)) (c d : ℕ → Option Signature) → Agree gs hs (stmt_globals a) → Call c d (callees_in a) →
      stmt_fits (scope ss vs r gs c) l a ≡ stmt_fits (scope ss vs r hs d) l a
  stmt_same (clear v) l ss vs r gs hs c d h k = refl
  stmt_same (check p) l ss vs r gs hs c d h k = object_same p ss vs gs hs h
  stmt_same (assign p a) l ss vs r gs hs c d h k =
      let at = first gs hs (place_globals p) (expr_globals a) h in
      both_same (object_same p ss vs gs hs at)
      (both_same (ap (λ (ty : VarTy). is_scalar (Some ty)) (object_type p ss vs gs hs at))
      (value_same a ss vs gs hs (place_type (types ss vs gs) p) (place_type (types ss vs hs) p) (object_type p ss vs gs hs at) (second gs hs (place_globals p) (expr_globals a) h)))
  stmt_same (copy p q) l ss vs r gs hs c d h k =
      let at = first gs hs (place_globals p) (place_globals q) h in
      let from = second gs hs (place_globals p) (place_globals q) h in
      both_same (both_same (object_same p ss vs gs hs at) (object_same q ss vs gs hs from))
      (both_same (ap is_compound (object_type p ss vs gs hs at)) (λ i. same_type (object_type p ss vs gs hs at i) (object_type q ss vs gs hs from i)))
  stmt_same (call f arguments v s) l ss vs r gs hs c d h k =
      ap (λ (o : Option Signature). call_fits (types ss vs gs) o arguments v) (k f (contains_first f [])) ∙ call_same (d f) arguments v ss vs gs hs h
  stmt_same (choose a xs ys) l ss vs r gs hs c d h k =
      let cond = first gs hs (expr_globals a) (globals_of xs ++ globals_of ys) h in
      let rest = second gs hs (expr_globals a) (globals_of xs ++ globals_of ys) h in
      both_same (both_same (expr_same a ss vs gs hs cond) (ap (λ (ty : VarTy). is_scalar (Some ty)) (expr_type a ss vs gs hs cond)))
      (both_same (stmts_same xs l ss vs r gs hs c d (first gs hs (globals_of xs) (globals_of ys) rest) (calls_first c d (callees_of xs) (callees_of ys) k))
      (stmts_same ys l ss vs r gs hs c d (second gs hs (globals_of xs) (globals_of ys) rest) (calls_second c d (callees_of xs) (callees_of ys) k)))
  stmt_same (repeat xs s) l ss vs r gs hs c d h k = stmts_same xs true ss vs r gs hs c d h k
  stmt_same break_out l ss vs r gs hs c d h k = refl
  stmt_same continue_on l ss vs r gs hs c d h k = refl
  stmt_same (give_back None) l ss vs r gs hs c d h k = refl
  stmt_same (give_back (Some a)) l ss vs r gs hs c d h k = both_same (expr_same a ss vs gs hs h) (ap (λ (ty : VarTy). both_int (integer_of (Some ty)) r) (expr_type a ss vs gs hs h))

  pub stmts_same : (xs : StmtTrees) (l : Bool) (ss : List StructInfo) (vs : List VarTy) (r : Option IntType) (gs hs : List (ℕ × VarTy)) (c d : ℕ → Option Signature) → Agree gs hs (globals_of xs) → Call c d (callees_of xs) →
      stmts_fit (scope ss vs r gs c) l xs ≡ stmts_fit (scope ss vs r hs d) l xs
  stmts_same no_stmts l ss vs r gs hs c d h k = refl
  stmts_same (stmt_and a rest) l ss vs r gs hs c d h k =
      both_same (stmt_same a l ss vs r gs hs c d (first gs hs (stmt_globals a) (globals_of rest) h) (calls_first c d (callees_in a) (callees_of rest) k))
      (stmts_same rest l ss vs r gs hs c d (second gs hs (stmt_globals a) (globals_of rest) h) (calls_second c d (callees_in a) (callees_of rest) k))
