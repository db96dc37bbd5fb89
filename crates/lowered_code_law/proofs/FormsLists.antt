-- Numbered lists: what a number finds in them, and that they are in order.
use Rattle.std.proofs.Common.{◌≡◌, ◌∙◌, ◌≤◌, ℕ, zero, suc, ◌+◌, refl, ap, sym, subst, arith, true, Option, Some, None, List, [], ◌∷◌, ◌++◌, length, map}
use Rattle.std.specs.Prelude.{slice_get, option_map, nat_eq, nat_le, is_some, sum_by}
use Rattle.std.specs.List.{find}
use Rattle.std.specs.Map.{lookup}
use Rattle.std.proofs.lemmas.Bool.Decides.{nat_tests}
use Rattle.std.proofs.lemmas.List.Sums.{sum_by-cons}
use Rattle.pt_base.proofs.Booleans.{both_hold, cond_false, cond_true}
use Rattle.pt_base.proofs.Numbers.{nat_eq_plus_suc, nat_eq_plus_zero}
use Rattle.pt_tree.specs.declared.signature.Signature.{Signature}
use Rattle.typed_tree.specs.declared.types.VarTy.{VarTy}
use Rattle.typed_tree.specs.declared.variable.Var.{Var}
use Rattle.typed_tree.specs.declared.variable.TypedGlobal.{TypedGlobal}
use Rattle.typed_tree.specs.StatementTree.{BodyTree}
use Rattle.typed_tree.specs.TypedTree.{TypedTree, FunctionTree}
use Rattle.typed_tree.specs.WellFormed.{are_rising}
use Rattle.pt_core.specs.CodeTree as core
use Rattle.pt_core.specs.CodeTree.{GlobalTree}
use Rattle.lowering.specs.Lowered.{Temp}
use Rattle.lowering.specs.Functions.{variable_of, core_of, code_if, functions_from, signatures_from, globals_from}
use Rattle.lowered_code_law.proofs.FormsSettings.{Stand}

-- ---- what a number finds

pub found_signature : (m n k : ℕ) (ss : List Signature) → m ≡ n + k → lookup (nat_eq m) (signatures_from n ss) ≡ slice_get ss k
found_signature m n k [] h = refl
found_signature m n zero (s ∷ ss) h = cond_true (nat_eq m n) (Some s) (lookup (nat_eq m) (signatures_from (suc n) ss)) (nat_eq_plus_zero m n h)
found_signature m n (suc k) (s ∷ ss) h = cond_false (nat_eq m n) (Some s) (lookup (nat_eq m) (signatures_from (suc n) ss)) (nat_eq_plus_suc m n k h) ∙ found_signature m (suc n) k ss (omega (arith, h))

abbrev pub global_entry : GlobalTree → ℕ × VarTy
global_entry g = (g.id, g.var.ty)

pub found_global : (m n k : ℕ) (gs : List TypedGlobal) → m ≡ n + k → lookup (nat_eq m) (map global_entry (globals_from n gs)) ≡ option_map (λ (y : TypedGlobal). y.var.ty) (slice_get gs k)
found_global m n k [] h = refl
found_global m n zero (g ∷ gs) h = cond_true (nat_eq m n) (Some g.var.ty) (lookup (nat_eq m) (map global_entry (globals_from (suc n) gs))) (nat_eq_plus_zero m n h)
found_global m n (suc k) (g ∷ gs) h = cond_false (nat_eq m n) (Some g.var.ty) (lookup (nat_eq m) (map global_entry (globals_from (suc n) gs))) (nat_eq_plus_suc m n k h) ∙ found_global m (suc n) k gs (omega (arith, h))

-- a function that has a body is among the code's
pub found_function : (t : TypedTree) (m n k : ℕ) (fs : List FunctionTree) (f : FunctionTree) (b : BodyTree) → m ≡ n + k → slice_get fs k ≡ Some f → f.body ≡ Some b → is_some (find (λ (g : core.FunctionTree). nat_eq m g.id) (functions_from t n fs)) ≡ true
found_function t m n k [] f b h is body = cc
found_function t m n zero (g ∷ gs) f b h is body = subst (λ z. is_some (find (λ (c : core.FunctionTree). nat_eq m c.id) (code_if t n g z ++ functions_from t (suc n) gs)) ≡ true) (sym (ap (λ (z : FunctionTree). z.body) (same is) ∙ body))
    (ap is_some (cond_true (nat_eq m n) (Some (core_of t n g b)) (find (λ (c : core.FunctionTree). nat_eq m c.id) (functions_from t (suc n) gs)) (nat_eq_plus_zero m n h)))
  where
    same : Some g ≡ Some f → g ≡ f
    same e = cc
found_function t m n (suc k) (g ∷ gs) f b h is body = go (found_function t m (suc n) k gs f b (omega (arith, h)) is body) g.body
  where
    go : is_some (find (λ (c : core.FunctionTree). nat_eq m c.id) (functions_from t (suc n) gs)) ≡ true → (o : Option BodyTree) → is_some (find (λ (c : core.FunctionTree). nat_eq m c.id) (code_if t n g o ++ functions_from t (suc n) gs)) ≡ true
    go rest None = rest
    go rest (Some y) = ap is_some (cond_false (nat_eq m n) (Some (core_of t n g y)) (find (λ (c : core.FunctionTree). nat_eq m c.id) (functions_from t (suc n) gs)) (nat_eq_plus_suc m n k h)) ∙ rest

-- ---- in order

less_self : (n : ℕ) → nat_le n n ≡ true
less_self n = grind (arith, nat_tests)

pub signatures_rise : (n : ℕ) (ss : List Signature) → are_rising n (map (λ (s : ℕ × Signature). s.0) (signatures_from n ss)) ≡ true
signatures_rise n [] = refl
signatures_rise n (s ∷ ss) = both_hold (nat_le n n) (are_rising (suc n) (map (λ (s : ℕ × Signature). s.0) (signatures_from (suc n) ss))) (less_self n) (signatures_rise (suc n) ss)

pub globals_rise : (n : ℕ) (gs : List TypedGlobal) → are_rising n (map (λ (g : GlobalTree). g.id) (globals_from n gs)) ≡ true
globals_rise n [] = refl
globals_rise n (g ∷ gs) = both_hold (nat_le n n) (are_rising (suc n) (map (λ (g : GlobalTree). g.id) (globals_from (suc n) gs))) (less_self n) (globals_rise (suc n) gs)

pub functions_rise : (t : TypedTree) (m n : ℕ) (fs : List FunctionTree) → m ≤ n → are_rising m (map (λ (f : core.FunctionTree). f.id) (functions_from t n fs)) ≡ true
functions_rise t m n [] h = refl
functions_rise t m n (f ∷ fs) h = go (functions_rise t m (suc n) fs (omega (arith, h))) (functions_rise t (suc n) (suc n) fs (omega arith)) f.body
  where
    go : are_rising m (map (λ (f : core.FunctionTree). f.id) (functions_from t (suc n) fs)) ≡ true → are_rising (suc n) (map (λ (f : core.FunctionTree). f.id) (functions_from t (suc n) fs)) ≡ true → (o : Option BodyTree) → are_rising m (map (λ (f : core.FunctionTree). f.id) (code_if t n f o ++ functions_from t (suc n) fs)) ≡ true
    go skip rest None = skip
    go skip rest (Some b) = both_hold (nat_le m n) (are_rising (suc n) (map (λ (f : core.FunctionTree). f.id) (functions_from t (suc n) fs))) (grind (arith, nat_tests)) rest

-- ---- variables, and temporaries behind them

pub variable_front : (xs ys : List Var) (k : ℕ) (ty : VarTy) → option_map (λ (y : Var). y.ty) (slice_get xs k) ≡ Some ty → slice_get (map (λ (y : Var). y.ty) (xs ++ ys)) k ≡ Some ty
variable_front [] ys k ty h = cc
variable_front (x ∷ xs) ys zero ty h = h
variable_front (x ∷ xs) ys (suc k) ty h = variable_front xs ys k ty h

temporary_types : (ts : List Temp) (k : ℕ) (x : Temp) → slice_get ts k ≡ Some x → slice_get (map (λ (y : Var). y.ty) (map variable_of ts)) k ≡ Some x.ty
temporary_types [] k x h = cc
temporary_types (y ∷ ys) zero x h = ap (option_map (λ (z : Temp). z.ty)) h
temporary_types (y ∷ ys) (suc k) x h = temporary_types ys k x h

temporary_behind : (xs : List Var) (ts : List Temp) (k : ℕ) (x : Temp) → slice_get ts k ≡ Some x → slice_get (map (λ (y : Var). y.ty) (xs ++ map variable_of ts)) (length xs + k) ≡ Some x.ty
temporary_behind [] ts k x h = subst (λ m. slice_get (map (λ (y : Var). y.ty) (map variable_of ts)) m ≡ Some x.ty) (plain k) (temporary_types ts k x h)
  where
    plain : (k : ℕ) → k ≡ 0 + k
    plain k = omega arith
temporary_behind (y ∷ ys) ts k x h = subst (λ m. slice_get (map (λ (y : Var). y.ty) ((y ∷ ys) ++ map variable_of ts)) m ≡ Some x.ty) (next (length ys) k) (temporary_behind ys ts k x h)
  where
    next : (n k : ℕ) → suc (n + k) ≡ suc n + k
    next n k = omega arith

stand_at : (vs : List VarTy) (k : ℕ) (ts : List Temp) → ((i : ℕ) (x : Temp) → slice_get ts i ≡ Some x → slice_get vs (k + i) ≡ Some x.ty) → Stand vs k ts
stand_at vs k [] h = tt
stand_at vs k (x ∷ xs) h = (subst (λ m. slice_get vs m ≡ Some x.ty) (plain k) (h 0 x refl), stand_at vs (k + 1) xs (λ i y is. subst (λ m. slice_get vs m ≡ Some y.ty) (next k i) (h (suc i) y is)))
  where
    plain : (k : ℕ) → k + 0 ≡ k
    plain k = omega arith

    next : (k i : ℕ) → k + suc i ≡ k + 1 + i
    next k i = omega arith

-- temporaries stand behind the variables
pub stand_behind : (xs : List Var) (ts : List Temp) → Stand (map (λ (y : Var). y.ty) (xs ++ map variable_of ts)) (length xs) ts
stand_behind xs ts = stand_at (map (λ (y : Var). y.ty) (xs ++ map variable_of ts)) (length xs) ts (λ i x h. temporary_behind xs ts i x h)

-- ---- sums

pub part_of_sum : {A : Type 0} (f : A → ℕ) (xs : List A) (k : ℕ) (x : A) → slice_get xs k ≡ Some x → f x ≤ sum_by f xs
part_of_sum f [] k x h = cc
part_of_sum f (y ∷ ys) zero x h = let c = sum_by-cons f y ys in subst (λ z. f z ≤ sum_by f (y ∷ ys)) (same h) (omega (arith, c))
  where
    same : Some y ≡ Some x → y ≡ x
    same e = cc
part_of_sum f (y ∷ ys) (suc k) x h = let c = sum_by-cons f y ys in let r = part_of_sum f ys k x h in omega (arith, c, r)

pub global_cells : (n : ℕ) (gs : List TypedGlobal) → sum_by (λ (g : GlobalTree). length g.cells) (globals_from n gs) ≡ sum_by (λ (g : TypedGlobal). length g.cells) gs
global_cells n [] = refl
global_cells n (g ∷ gs) =
    let a = sum_by-cons (λ (g : GlobalTree). length g.cells) (record { id = n; var = g.var; cells = g.cells }) (globals_from (suc n) gs) in
    let b = sum_by-cons (λ (g : TypedGlobal). length g.cells) g gs in
    a ∙ ap (λ m. length g.cells + m) (global_cells (suc n) gs) ∙ sym b
