-- Whether code is fine depends only on the globals that it names: it is fine in a part of the program.
use Rattle.std.proofs.Common.{◌≡◌, ◌∙◌, ◌≤◌, ◌<◌, ℕ, suc, refl, ap, subst, true, false, Option, Some, None, List, [], ◌∷◌, ◌++◌}
use Rattle.typed_tree.specs.declared.types.VarTy.{VarTy}
use Rattle.typed_tree.specs.declared.types.VarTy.TheVariants.{Int, Struct, Array, Pointer}
use Rattle.typed_tree.specs.declared.types.StructInfo.{StructInfo}
use Rattle.typed_tree.specs.Sizes.{sizes_of, elem_cells, cells_by}
use Rattle.pt_core.specs.CodeTree.{RootTree, local, global, deref, PlaceTree, place, ExprTree, constant, read, unary, binary, convert, null, address, decay, move, compare, difference, ExprTrees, no_exprs, expr_and, StmtTree, clear, check, assign, copy, call, choose, repeat, break_out, continue_on, give_back, StmtTrees, no_stmts, stmt_and}
use Rattle.pt_core.specs.Types.{element_of, path_type, place_type, root_type, type_of}
use Rattle.pt_core.specs.Values.{is_type}
use Rattle.lowered_code_law.specs.NamesNamed.{argument_globals, expr_globals, globals_of, place_globals, root_globals, stmt_globals}
use Rattle.split_law.proofs.Agreeing.{types, Agree, first, second, expr_type, object_type, start_type}
use Rattle.handle_classes.specs.Classes.{Class, World, Scope, converted_class, pointer_to, pointed_to, element_cells, along_class, class_of, place_class, root_class, integer_class}
use Rattle.handle_classes.specs.Judgment.{IsPlain, HasElements, IsAnArray, IsWithin, IsFine, IsFinePlace, IsFineRoot, Flows, Goes, Copies, AreFineArguments, TakesResult, IsFineStatement, AreFineStatements}

-- code is judged with these globals' types, and with these classes of variables and globals
abbrev pub judge : List StructInfo → List VarTy → (ℕ → Class) → (ℕ → Class) → List (ℕ × VarTy) → Scope
judge ss vs vc gc gs = record { context = types ss vs gs; variable = vc; global = gc }

-- ---- classes

along_same : (ss : List StructInfo) (vs : List VarTy) (gs hs : List (ℕ × VarTy)) (ty inner : VarTy) (path : List ℕ) (of : Class) → along_class (types ss vs gs) ty inner path of ≡ along_class (types ss vs hs) ty inner path of
along_same ss vs gs hs ty inner [] of = refl
along_same ss vs gs hs ty inner (k ∷ ks) of = refl

cells_same : (p : PlaceTree) (ss : List StructInfo) (vs : List VarTy) (gs hs : List (ℕ × VarTy)) → Agree gs hs (place_globals p) → element_cells (types ss vs gs) p ≡ element_cells (types ss vs hs) p
cells_same p ss vs gs hs h = ap (λ (ty : VarTy). elem_cells (sizes_of ss) (element_of ty)) (object_type p ss vs gs hs h)

mutual
  class_same : (a : ExprTree) (ss : List StructInfo) (vs : List VarTy) (vc gc : ℕ → Class) (gs hs : List (ℕ × VarTy)) → Agree gs hs (expr_globals a) → class_of (judge ss vs vc gc gs) a ≡ class_of (judge ss vs vc gc hs) a
  class_same (constant t v) ss vs vc gc gs hs h = refl
  class_same (read p) ss vs vc gc gs hs h = place_same p ss vs vc gc gs hs h
  class_same (unary op t a s) ss vs vc gc gs hs h = refl
  class_same (binary op t a b s) ss vs vc gc gs hs h = refl
  class_same (convert to a) ss vs vc gc gs hs h = λ i. converted_class (is_type (expr_type a ss vs gs hs h i) to) (class_same a ss vs vc gc gs hs h i)
  class_same (null elem) ss vs vc gc gs hs h = refl
  class_same (address p) ss vs vc gc gs hs h = λ i. pointer_to (cells_same p ss vs gs hs h i) (place_same p ss vs vc gc gs hs h i)
  class_same (decay p) ss vs vc gc gs hs h = λ i. pointer_to (cells_same p ss vs gs hs h i) (place_same p ss vs vc gc gs hs h i)
  class_same (move a b back s) ss vs vc gc gs hs h = class_same a ss vs vc gc gs hs (first gs hs (expr_globals a) (expr_globals b) h)
  class_same (compare op a b s) ss vs vc gc gs hs h = refl
  class_same (difference a b s) ss vs vc gc gs hs h = refl

  place_same : (p : PlaceTree) (ss : List StructInfo) (vs : List VarTy) (vc gc : ℕ → Class) (gs hs : List (ℕ × VarTy)) → Agree gs hs (place_globals p) → place_class (judge ss vs vc gc gs) p ≡ place_class (judge ss vs vc gc hs) p
  place_same (place root path) ss vs vc gc gs hs h =
      along_same ss vs gs hs (root_type (types ss vs gs) root) (path_type ss (root_type (types ss vs gs) root) path) path (root_class (judge ss vs vc gc gs) root)
      ∙ (λ i. along_class (types ss vs hs) (start_type root ss vs gs hs h i) (path_type ss (start_type root ss vs gs hs h i) path) path (root_same root ss vs vc gc gs hs h i))

  root_same : (r : RootTree) (ss : List StructInfo) (vs : List VarTy) (vc gc : ℕ → Class) (gs hs : List (ℕ × VarTy)) → Agree gs hs (root_globals r) → root_class (judge ss vs vc gc gs) r ≡ root_class (judge ss vs vc gc hs) r
  root_same (local v) ss vs vc gc gs hs h = refl
  root_same (global g) ss vs vc gc gs hs h = refl
  root_same (deref a s) ss vs vc gc gs hs h = ap pointed_to (class_same a ss vs vc gc gs hs h)

-- ---- expressions and places

within_same : (ss : List StructInfo) (vs : List VarTy) (gs hs : List (ℕ × VarTy)) (ty inner : VarTy) (path : List ℕ) (of : Class) → IsWithin (types ss vs gs) ty inner path of → IsWithin (types ss vs hs) ty inner path of
within_same ss vs gs hs ty inner [] of h = tt
within_same ss vs gs hs ty inner (k ∷ ks) of h = h

elements_same : (ss : List StructInfo) (vs : List VarTy) (gs hs : List (ℕ × VarTy)) (ty : VarTy) (size : ℕ) → HasElements (types ss vs gs) ty size → HasElements (types ss vs hs) ty size
elements_same ss vs gs hs (Int t) size h = h
elements_same ss vs gs hs (Struct n) size h = h
elements_same ss vs gs hs (Array elem count) size h = h
elements_same ss vs gs hs (Pointer elem fixed) size h = h

mutual
  expr_fine : (a : ExprTree) (ss : List StructInfo) (vs : List VarTy) (vc gc : ℕ → Class) (gs hs : List (ℕ × VarTy)) → Agree gs hs (expr_globals a) → IsFine (judge ss vs vc gc gs) a → IsFine (judge ss vs vc gc hs) a
  expr_fine (constant t v) ss vs vc gc gs hs h f = tt
  expr_fine (read p) ss vs vc gc gs hs h f = (place_fine p ss vs vc gc gs hs h f.0, subst (λ (k : Class). k.pointer ≡ false → 0 < k.size) (place_same p ss vs vc gc gs hs h) f.1)
  expr_fine (unary op t a s) ss vs vc gc gs hs h f = (expr_fine a ss vs vc gc gs hs h f.0, subst (λ k. IsPlain k) (class_same a ss vs vc gc gs hs h) f.1)
  expr_fine (binary op t a b s) ss vs vc gc gs hs h f =
      let l = first gs hs (expr_globals a) (expr_globals b) h in
      let r = second gs hs (expr_globals a) (expr_globals b) h in
      (expr_fine a ss vs vc gc gs hs l f.0, expr_fine b ss vs vc gc gs hs r f.1, subst (λ k. IsPlain k) (class_same a ss vs vc gc gs hs l) f.2, subst (λ k. IsPlain k) (class_same b ss vs vc gc gs hs r) f.3)
  expr_fine (convert to a) ss vs vc gc gs hs h f =
      let same = class_same a ss vs vc gc gs hs h in (
        expr_fine a ss vs vc gc gs hs h f.0,
        subst (λ (k : Class). k.pointer ≡ false) same f.1,
        subst (λ (k : Class). is_type (type_of (types ss vs hs) a) to ≡ false → k.may 0 ≡ false) same (subst (λ ty. is_type ty to ≡ false → (class_of (judge ss vs vc gc gs) a).may 0 ≡ false) (expr_type a ss vs gs hs h) f.2),
      )
  expr_fine (null elem) ss vs vc gc gs hs h f = tt
  expr_fine (address p) ss vs vc gc gs hs h f =
      let same = place_same p ss vs vc gc gs hs h in (
        place_fine p ss vs vc gc gs hs h f.0,
        subst (λ (k : Class). k.pointer ≡ false) same f.1,
        subst (λ (k : Class). element_cells (types ss vs hs) p ≤ k.size) same (subst (λ n. n ≤ (place_class (judge ss vs vc gc gs) p).size) (cells_same p ss vs gs hs h) f.2),
      )
  expr_fine (decay p) ss vs vc gc gs hs h f =
      let same = place_same p ss vs vc gc gs hs h in (
        place_fine p ss vs vc gc gs hs h f.0,
        subst (λ (k : Class). k.pointer ≡ false) same f.1,
        subst (λ k. IsAnArray k (element_cells (types ss vs hs) p) (place_type (types ss vs hs) p)) same
            (subst (λ ty. IsAnArray (place_class (judge ss vs vc gc gs) p) (elem_cells (sizes_of ss) (element_of ty)) ty) (object_type p ss vs gs hs h) f.2),
      )
  expr_fine (move a b back s) ss vs vc gc gs hs h f =
      let l = first gs hs (expr_globals a) (expr_globals b) h in
      let r = second gs hs (expr_globals a) (expr_globals b) h in
      (expr_fine a ss vs vc gc gs hs l f.0, expr_fine b ss vs vc gc gs hs r f.1, subst (λ (k : Class). k.pointer ≡ true) (class_same a ss vs vc gc gs hs l) f.2, subst (λ k. IsPlain k) (class_same b ss vs vc gc gs hs r) f.3)
  expr_fine (compare op a b s) ss vs vc gc gs hs h f =
      let l = first gs hs (expr_globals a) (expr_globals b) h in
      let r = second gs hs (expr_globals a) (expr_globals b) h in
      (expr_fine a ss vs vc gc gs hs l f.0, expr_fine b ss vs vc gc gs hs r f.1, subst (λ (k : Class). k.pointer ≡ true) (class_same a ss vs vc gc gs hs l) f.2, subst (λ (k : Class). k.pointer ≡ true) (class_same b ss vs vc gc gs hs r) f.3)
  expr_fine (difference a b s) ss vs vc gc gs hs h f =
      let l = first gs hs (expr_globals a) (expr_globals b) h in
      let r = second gs hs (expr_globals a) (expr_globals b) h in
      (expr_fine a ss vs vc gc gs hs l f.0, expr_fine b ss vs vc gc gs hs r f.1, subst (λ (k : Class). k.pointer ≡ true) (class_same a ss vs vc gc gs hs l) f.2, subst (λ (k : Class). k.pointer ≡ true) (class_same b ss vs vc gc gs hs r) f.3)

  place_fine : (p : PlaceTree) (ss : List StructInfo) (vs : List VarTy) (vc gc : ℕ → Class) (gs hs : List (ℕ × VarTy)) → Agree gs hs (place_globals p) → IsFinePlace (judge ss vs vc gc gs) p → IsFinePlace (judge ss vs vc gc hs) p
  place_fine (place root path) ss vs vc gc gs hs h f = (
    root_fine root ss vs vc gc gs hs h f.0,
    within_same ss vs gs hs (root_type (types ss vs hs) root) (path_type ss (root_type (types ss vs hs) root) path) path (root_class (judge ss vs vc gc hs) root)
        (subst (λ ty. IsWithin (types ss vs gs) ty (path_type ss ty path) path (root_class (judge ss vs vc gc hs) root)) (start_type root ss vs gs hs h)
        (subst (λ k. IsWithin (types ss vs gs) (root_type (types ss vs gs) root) (path_type ss (root_type (types ss vs gs) root) path) path k) (root_same root ss vs vc gc gs hs h) f.1)),
  )

  root_fine : (r : RootTree) (ss : List StructInfo) (vs : List VarTy) (vc gc : ℕ → Class) (gs hs : List (ℕ × VarTy)) → Agree gs hs (root_globals r) → IsFineRoot (judge ss vs vc gc gs) r → IsFineRoot (judge ss vs vc gc hs) r
  root_fine (local v) ss vs vc gc gs hs h f = tt
  root_fine (global g) ss vs vc gc gs hs h f = tt
  root_fine (deref a s) ss vs vc gc gs hs h f =
      let same = class_same a ss vs vc gc gs hs h in (
        expr_fine a ss vs vc gc gs hs h f.0,
        subst (λ (k : Class). k.pointer ≡ true) same f.1,
        elements_same ss vs gs hs (type_of (types ss vs hs) a) (class_of (judge ss vs vc gc hs) a).size
            (subst (λ ty. HasElements (types ss vs gs) ty (class_of (judge ss vs vc gc hs) a).size) (expr_type a ss vs gs hs h)
            (subst (λ (k : Class). HasElements (types ss vs gs) (type_of (types ss vs gs) a) k.size) same f.2)),
      )

-- ---- statements

goes_same : (v w k l : Class) → v ≡ w → k ≡ l → Goes v k → Goes w l
goes_same v w k l e f h = subst (λ z. Goes w z) f (subst (λ z. Goes z k) e h)

copies_same : (v w k l : Class) (n m : ℕ) → v ≡ w → k ≡ l → n ≡ m → Copies v k n → Copies w l m
copies_same v w k l n m e f g h = subst (λ z. Copies w l z) g (subst (λ z. Copies w z n) f (subst (λ z. Copies z k n) e h))

arguments_fine : (as' : ExprTrees) (into : ℕ → Class) (ss : List StructInfo) (vs : List VarTy) (vc gc : ℕ → Class) (gs hs : List (ℕ × VarTy)) → Agree gs hs (argument_globals as') →
    AreFineArguments (judge ss vs vc gc gs) as' into → AreFineArguments (judge ss vs vc gc hs) as' into
arguments_fine no_exprs into ss vs vc gc gs hs h f = tt
arguments_fine (expr_and a rest) into ss vs vc gc gs hs h f =
    let l = first gs hs (expr_globals a) (argument_globals rest) h in
    let r = second gs hs (expr_globals a) (argument_globals rest) h in
    (expr_fine a ss vs vc gc gs hs l f.0, subst (λ k. Flows k (into 0)) (class_same a ss vs vc gc gs hs l) f.1, arguments_fine rest (λ n. into (suc n)) ss vs vc gc gs hs r f.2)

result_taken : (v : Option ℕ) (w : World) (g : ℕ) (ss : List StructInfo) (vs : List VarTy) (vc gc : ℕ → Class) (gs hs : List (ℕ × VarTy)) → TakesResult w (judge ss vs vc gc gs) g v → TakesResult w (judge ss vs vc gc hs) g v
result_taken None w g ss vs vc gc gs hs h = tt
result_taken (Some v) w g ss vs vc gc gs hs h = h

mutual
  stmt_fine : (a : StmtTree) (w : World) (n : ℕ) (ss : List StructInfo) (vs : List VarTy) (vc gc : ℕ → Class) (gs hs : List (ℕ × VarTy)) → Agree gs hs (stmt_globals a) →
      IsFineStatement w (judge ss vs vc gc gs) n a → IsFineStatement w (judge ss vs vc gc hs) n a
  stmt_fine (clear v) w n ss vs vc gc gs hs h f = tt
  stmt_fine (check p) w n ss vs vc gc gs hs h f = place_fine p ss vs vc gc gs hs h f
  stmt_fine (assign p a) w n ss vs vc gc gs hs h f =
      let l = first gs hs (place_globals p) (expr_globals a) h in
      let r = second gs hs (place_globals p) (expr_globals a) h in (
        place_fine p ss vs vc gc gs hs l f.0,
        expr_fine a ss vs vc gc gs hs r f.1,
        goes_same (class_of (judge ss vs vc gc gs) a) (class_of (judge ss vs vc gc hs) a) (place_class (judge ss vs vc gc gs) p) (place_class (judge ss vs vc gc hs) p) (class_same a ss vs vc gc gs hs r) (place_same p ss vs vc gc gs hs l) f.2,
      )
  stmt_fine (copy p q) w n ss vs vc gc gs hs h f =
      let l = first gs hs (place_globals p) (place_globals q) h in
      let r = second gs hs (place_globals p) (place_globals q) h in (
        place_fine p ss vs vc gc gs hs l f.0,
        place_fine q ss vs vc gc gs hs r f.1,
        copies_same (place_class (judge ss vs vc gc gs) p) (place_class (judge ss vs vc gc hs) p) (place_class (judge ss vs vc gc gs) q) (place_class (judge ss vs vc gc hs) q)
            (cells_by (sizes_of ss) (place_type (types ss vs gs) p)) (cells_by (sizes_of ss) (place_type (types ss vs hs) p))
            (place_same p ss vs vc gc gs hs l) (place_same q ss vs vc gc gs hs r) (ap (λ ty. cells_by (sizes_of ss) ty) (object_type p ss vs gs hs l)) f.2,
      )
  stmt_fine (call g arguments v s) w n ss vs vc gc gs hs h f = (arguments_fine arguments (w.param g) ss vs vc gc gs hs h f.0, result_taken v w g ss vs vc gc gs hs f.1)
  stmt_fine (choose a xs ys) w n ss vs vc gc gs hs h f =
      let cond = first gs hs (expr_globals a) (globals_of xs ++ globals_of ys) h in
      let rest = second gs hs (expr_globals a) (globals_of xs ++ globals_of ys) h in (
        expr_fine a ss vs vc gc gs hs cond f.0,
        subst (λ (k : Class). k.pointer ≡ false → k.may 0 ≡ false) (class_same a ss vs vc gc gs hs cond) f.1,
        stmts_fine xs w n ss vs vc gc gs hs (first gs hs (globals_of xs) (globals_of ys) rest) f.2,
        stmts_fine ys w n ss vs vc gc gs hs (second gs hs (globals_of xs) (globals_of ys) rest) f.3,
      )
  stmt_fine (repeat xs s) w n ss vs vc gc gs hs h f = stmts_fine xs w n ss vs vc gc gs hs h f
  stmt_fine break_out w n ss vs vc gc gs hs h f = tt
  stmt_fine continue_on w n ss vs vc gc gs hs h f = tt
  stmt_fine (give_back None) w n ss vs vc gc gs hs h f = tt
  stmt_fine (give_back (Some a)) w n ss vs vc gc gs hs h f = (expr_fine a ss vs vc gc gs hs h f.0, subst (λ k. Flows k (integer_class (w.result n))) (class_same a ss vs vc gc gs hs h) f.1)

  pub stmts_fine : (xs : StmtTrees) (w : World) (n : ℕ) (ss : List StructInfo) (vs : List VarTy) (vc gc : ℕ → Class) (gs hs : List (ℕ × VarTy)) → Agree gs hs (globals_of xs) →
      AreFineStatements w (judge ss vs vc gc gs) n xs → AreFineStatements w (judge ss vs vc gc hs) n xs
  stmts_fine no_stmts w n ss vs vc gc gs hs h f = tt
  stmts_fine (stmt_and a rest) w n ss vs vc gc gs hs h f = (
    stmt_fine a w n ss vs vc gc gs hs (first gs hs (stmt_globals a) (globals_of rest) h) f.0,
    stmts_fine rest w n ss vs vc gc gs hs (second gs hs (stmt_globals a) (globals_of rest) h) f.1,
  )
