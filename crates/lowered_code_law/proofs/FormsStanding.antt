-- Statements one after the other, and temporaries where they stand.
use Rattle.std.proofs.Common.{◌≡◌, ◌∙◌, ℕ, zero, suc, ◌+◌, refl, ap, sym, subst, arith, Bool, true, false, Some, List, [], ◌∷◌, ◌++◌, length}
use Rattle.std.specs.Prelude.{◌&&◌, slice_get, nat_lt}
use Rattle.std.proofs.lemmas.Bool.Decides.{nat_tests}
use Rattle.std.proofs.lemmas.Option.{get_or_from_slice_get}
use Rattle.pt_base.specs.declared.int_type.IntType.TheVariants as i
use Rattle.pt_base.proofs.Booleans.{both_hold, both_hold_first, both_hold_second}
use Rattle.typed_tree.specs.declared.types.VarTy.{VarTy}
use Rattle.typed_tree.specs.declared.types.VarTy.TheVariants.{Int}
use Rattle.typed_tree.specs.declared.types.StructInfo.{StructInfo}
use Rattle.typed_tree.specs.TypeTests.{is_scalar}
use Rattle.typed_tree.specs.WellFormed.{is_variable_type}
use Rattle.pt_core.specs.CodeTree.{ExprTree, PlaceTree, StmtTree, assign, choose, read, stmt_trees}
use Rattle.pt_core.specs.Types.{Context, type_of, place_type}
use Rattle.pt_core.specs.WellFormedExpression.{stands_for, expr_fits, place_fits}
use Rattle.pt_core.specs.WellFormedStatement.{Scope, stmt_fits, stmts_fit}
use Rattle.lowering.specs.Lowered.{Temp, Lowered, past, temp, temp_place, hold, held, held_if}
use Rattle.lowered_code_law.proofs.FormsSettings.{Fit, Known, LoweredFits, Setting, Stand, ValueFits, context, is_known, scope}
use Rattle.lowered_code_law.proofs.FormsSameTypes.{stands_scalar, stands_self}

-- ---- lists

pub in_list : {A : Type 0} (xs : List A) (k : ℕ) (x : A) → slice_get xs k ≡ Some x → nat_lt k (length xs) ≡ true
in_list [] k x h = cc
in_list (y ∷ ys) zero x h = grind (arith, nat_tests)
in_list (y ∷ ys) (suc k) x h = let rest = in_list ys k x h in grind (arith, nat_tests, rest)

pub regroup : {A : Type 0} (xs ys zs : List A) → xs ++ ys ++ zs ≡ xs ++ (ys ++ zs)
regroup [] ys zs = refl
regroup (x ∷ xs) ys zs = ap (λ rest. x ∷ rest) (regroup xs ys zs)

-- ---- statements

pub fit_both : (k : Scope) (l : Bool) (xs ys : List StmtTree) → Fit k l xs → Fit k l ys → Fit k l (xs ++ ys)
fit_both k l [] ys h i = i
fit_both k l (x ∷ xs) ys h i = (h.0, fit_both k l xs ys h.1 i)

pub fit_trees : (k : Scope) (l : Bool) (xs : List StmtTree) → Fit k l xs → stmts_fit k l (stmt_trees xs) ≡ true
fit_trees k l [] h = refl
fit_trees k l (x ∷ xs) h = both_hold (stmt_fits k l x) (stmts_fit k l (stmt_trees xs)) h.0 (fit_trees k l xs h.1)

-- ---- temporaries

pub known_both : (structs : List StructInfo) (xs ys : List Temp) → Known structs xs → Known structs ys → Known structs (xs ++ ys)
known_both structs [] ys h i = i
known_both structs (x ∷ xs) ys h i = (h.0, known_both structs xs ys h.1 i)

pub stand_first : (vs : List VarTy) (k : ℕ) (xs ys : List Temp) → Stand vs k (xs ++ ys) → Stand vs k xs
stand_first vs k [] ys h = tt
stand_first vs k (x ∷ xs) ys h = (h.0, stand_first vs (k + 1) xs ys h.1)

pub stand_rest : (vs : List VarTy) (k : ℕ) (xs ys : List Temp) → Stand vs k (xs ++ ys) → Stand vs (past k xs) ys
stand_rest vs k [] ys h = subst (λ m. Stand vs m ys) (same k) h
  where
    same : (k : ℕ) → k ≡ k + 0
    same k = omega arith
stand_rest vs k (x ∷ xs) ys h = subst (λ m. Stand vs m ys) (same k (length xs)) (stand_rest vs (k + 1) xs ys h.1)
  where
    same : (k n : ℕ) → k + 1 + n ≡ k + suc n
    same k n = omega arith

-- temporaries of three parts
pub stand_three : (vs : List VarTy) (k : ℕ) (xs ys zs : List Temp) → Stand vs k (xs ++ ys ++ zs) → Stand vs k (xs ++ (ys ++ zs))
stand_three vs k xs ys zs h = subst (λ ts. Stand vs k ts) (regroup xs ys zs) h

pub known_scalar : (structs : List StructInfo) (ty : VarTy) → is_known structs ty ≡ true → is_scalar (Some ty) ≡ true
known_scalar structs ty h = both_hold_first (is_scalar (Some ty)) (is_variable_type (length structs) ty) h

pub known_variable : (structs : List StructInfo) (ty : VarTy) → is_known structs ty ≡ true → is_variable_type (length structs) ty ≡ true
known_variable structs ty h = both_hold_second (is_scalar (Some ty)) (is_variable_type (length structs) ty) h

-- ---- reading and storing

pub value_of_type : (c : Context) (a b : VarTy) (x : ExprTree) → a ≡ b → ValueFits c a x → ValueFits c b x
value_of_type c a b x e h = subst (λ z. ValueFits c z x) e h

pub read_fits : (c : Context) (p : PlaceTree) (ty : VarTy) → place_fits c p ≡ true → place_type c p ≡ ty → is_scalar (Some ty) ≡ true → ValueFits c ty (read p)
read_fits c p ty h is scalar = record {
  fits = both_hold (place_fits c p) (is_scalar (Some (place_type c p))) h (subst (λ z. is_scalar (Some z) ≡ true) (sym is) scalar);
  type = subst (λ z. stands_for z ty ≡ true) (sym is) (stands_self ty);
}

pub assign_fits : (w : Setting) (l : Bool) (p : PlaceTree) (ty : VarTy) (a : ExprTree) → place_fits (context w) p ≡ true → place_type (context w) p ≡ ty → is_scalar (Some ty) ≡ true → ValueFits (context w) ty a → stmt_fits (scope w) l (assign p a) ≡ true
assign_fits w l p ty a h is scalar v =
    both_hold (place_fits (context w) p) (is_scalar (Some (place_type (context w) p)) && (expr_fits (context w) a && stands_for (type_of (context w) a) (place_type (context w) p))) h
    (both_hold (is_scalar (Some (place_type (context w) p))) (expr_fits (context w) a && stands_for (type_of (context w) a) (place_type (context w) p)) (subst (λ z. is_scalar (Some z) ≡ true) (sym is) scalar)
    (both_hold (expr_fits (context w) a) (stands_for (type_of (context w) a) (place_type (context w) p)) v.fits (subst (λ z. stands_for (type_of (context w) a) z ≡ true) (sym is) v.type)))

pub temp_fits : (w : Setting) (k : ℕ) (ty : VarTy) → slice_get w.variables k ≡ Some ty → place_fits (context w) (temp_place k) ≡ true
temp_fits w k ty h = both_hold (nat_lt k (length w.variables)) true (in_list w.variables k ty h) refl

pub temp_type : (w : Setting) (k : ℕ) (ty : VarTy) → slice_get w.variables k ≡ Some ty → place_type (context w) (temp_place k) ≡ ty
temp_type w k ty h = get_or_from_slice_get w.variables k ty (Int i.Int) h

pub temp_value : (w : Setting) (k : ℕ) (ty : VarTy) → slice_get w.variables k ≡ Some ty → is_scalar (Some ty) ≡ true → ValueFits (context w) ty (temp k)
temp_value w k ty h scalar = read_fits (context w) (temp_place k) ty (temp_fits w k ty h) (temp_type w k ty h) scalar

pub hold_fits : (w : Setting) (l : Bool) (k : ℕ) (ty : VarTy) (a : ExprTree) → slice_get w.variables k ≡ Some ty → is_scalar (Some ty) ≡ true → ValueFits (context w) ty a → stmt_fits (scope w) l (hold k a) ≡ true
hold_fits w l k ty a h scalar v = assign_fits w l (temp_place k) ty a (temp_fits w k ty h) (temp_type w k ty h) scalar v

-- a value that is held
pub held_fits : (w : Setting) (l : Bool) (ty : VarTy) (n : ℕ) (x : Temp) (v : Lowered) → x.ty ≡ ty → is_scalar (Some ty) ≡ true → (Stand w.variables n v.temps → LoweredFits w l ty v) →
    Stand w.variables n (held n x v).temps → LoweredFits w l ty (held n x v)
held_fits w l ty n x v is scalar h stand =
    let all = h (stand_first w.variables n v.temps (x ∷ []) stand) in
    let here : slice_get w.variables (past n v.temps) ≡ Some ty = (stand_rest w.variables n v.temps (x ∷ []) stand).0 ∙ ap Some is in
    let known = both_hold (is_scalar (Some ty)) (is_variable_type (length w.names.structs) ty) scalar all.known in
    record {
      stmts = fit_both (scope w) l v.stmts (hold (past n v.temps) v.value ∷ []) all.stmts (hold_fits w l (past n v.temps) ty v.value here scalar all.value, tt);
      value = temp_value w (past n v.temps) ty here scalar;
      temps = known_both w.names.structs v.temps (x ∷ []) all.temps (subst (λ z. is_known w.names.structs z ≡ true) (sym is) known, tt);
      known = all.known;
    }

pub held_if_fits : (b : Bool) (w : Setting) (l : Bool) (ty : VarTy) (n : ℕ) (x : Temp) (v : Lowered) → x.ty ≡ ty → is_scalar (Some ty) ≡ true → (Stand w.variables n v.temps → LoweredFits w l ty v) →
    Stand w.variables n (held_if b n x v).temps → LoweredFits w l ty (held_if b n x v)
held_if_fits true w l ty n x v is scalar h stand = held_fits w l ty n x v is scalar h stand
held_if_fits false w l ty n x v is scalar h stand = h stand

-- ---- choices

pub choose_fits : (w : Setting) (l : Bool) (ty : VarTy) (a : ExprTree) (xs ys : List StmtTree) → ValueFits (context w) ty a → is_scalar (Some ty) ≡ true → Fit (scope w) l xs → Fit (scope w) l ys → stmt_fits (scope w) l (choose a (stmt_trees xs) (stmt_trees ys)) ≡ true
choose_fits w l ty a xs ys v scalar h i =
    both_hold (expr_fits (context w) a && is_scalar (Some (type_of (context w) a))) (stmts_fit (scope w) l (stmt_trees xs) && stmts_fit (scope w) l (stmt_trees ys))
    (both_hold (expr_fits (context w) a) (is_scalar (Some (type_of (context w) a))) v.fits (stands_scalar (type_of (context w) a) ty v.type scalar))
    (both_hold (stmts_fit (scope w) l (stmt_trees xs)) (stmts_fit (scope w) l (stmt_trees ys)) (fit_trees (scope w) l xs h) (fit_trees (scope w) l ys i))
