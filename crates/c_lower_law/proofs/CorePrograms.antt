-- What the numbers of a lowered program name.
use Rattle.std.proofs.Common.{◌≡◌, ◌∙◌, ◌≤◌, ◌<◌, ℕ, zero, suc, ◌+◌, pos, nat_eq, refl, ap, sym, subst, arith, Bool, true, false, not, cond, Option, Some, None, List, [], ◌∷◌, ◌++◌, map, length, codes, if◌then◌else◌}
use Rattle.std.specs.Prelude.{IsTrue, slice_get, get_or, unwrap_or, option_map}
use Rattle.std.specs.List.{find}
use Rattle.std.specs.Map.{lookup}
use Rattle.std.proofs.lemmas.Bool.Decides.{nat_tests}
use Rattle.pt_base.specs.declared.int_type.IntType.TheVariants as i
use Rattle.pt_base.proofs.Numbers.{as_zero_plus, nat_eq_above, nat_eq_true}
use Rattle.pt_base.proofs.Places.{get_map}
use Rattle.pt_tree.specs.declared.signature.Signature.{Signature}
use Rattle.typed_tree.specs.declared.types.VarTy.{VarTy}
use Rattle.typed_tree.specs.declared.types.VarTy.TheVariants.{Int}
use Rattle.typed_tree.specs.declared.variable.Var.{Var}
use Rattle.typed_tree.specs.declared.variable.TypedGlobal.{TypedGlobal}
use Rattle.typed_tree.specs.StatementTree.{BodyTree}
use Rattle.typed_tree.specs.TypedTree.{TypedTree, FunctionTree, signatures_of}
use Rattle.typed_tree.specs.WellFormedExpression.{is_main}
use Rattle.pt_core.specs.CodeTree as core
use Rattle.pt_core.specs.CodeTree.{StmtTree}
use Rattle.pt_core.specs.Types as tys
use Rattle.pt_core.specs.Types.{type_at}
use Rattle.pt_core.specs.Calls.{no_signature, signature_in, function_in, no_function}
use Rattle.lowering.specs.Lowered.{Temp}
use Rattle.lowering.specs.Functions.{variable_of, main_end, lowered_body, core_of, code_if, functions_from, signatures_from, globals_from, core_program}
use Rattle.c_lower_law.proofs.Relations.{HasTemps}

-- ---- by numbers

signature_from : (xs : List Signature) (n f k : ℕ) → f ≡ n + k → lookup (nat_eq f) (signatures_from n xs) ≡ slice_get xs k
signature_from [] n f k e = refl
signature_from (x ∷ xs) n f zero e = ap (λ b. cond b (Some x) (lookup (nat_eq f) (signatures_from (suc n) xs))) (nat_eq_true f n (omega (arith, e)))
signature_from (x ∷ xs) n f (suc k) e = ap (λ b. cond b (Some x) (lookup (nat_eq f) (signatures_from (suc n) xs))) (nat_eq_above f n (omega (arith, e))) ∙ signature_from xs (suc n) f k (omega (arith, e))

pub signature_is : (program : TypedTree) (f : ℕ) (g : FunctionTree) → slice_get program.functions f ≡ Some g → signature_in (core_program program) f ≡ g.signature
signature_is program f g h =
    ap (λ o. unwrap_or o no_signature)
    (signature_from (signatures_of program) 0 f f (as_zero_plus f) ∙ get_map (λ (y : FunctionTree). y.signature) program.functions f ∙ ap (λ o. option_map (λ (y : FunctionTree). y.signature) o) h)

global_from : (xs : List TypedGlobal) (n g k : ℕ) → g ≡ n + k → lookup (nat_eq g) (map (λ (y : core.GlobalTree). (y.id, y.var.ty)) (globals_from n xs)) ≡ slice_get (map (λ (y : TypedGlobal). y.var.ty) xs) k
global_from [] n g k e = refl
global_from (x ∷ xs) n g zero e = ap (λ b. cond b (Some x.var.ty) (lookup (nat_eq g) (map (λ (y : core.GlobalTree). (y.id, y.var.ty)) (globals_from (suc n) xs)))) (nat_eq_true g n (omega (arith, e)))
global_from (x ∷ xs) n g (suc k) e =
    ap (λ b. cond b (Some x.var.ty) (lookup (nat_eq g) (map (λ (y : core.GlobalTree). (y.id, y.var.ty)) (globals_from (suc n) xs)))) (nat_eq_above g n (omega (arith, e))) ∙ global_from xs (suc n) g k (omega (arith, e))

pub global_is : (program : TypedTree) (g : ℕ) (ty : VarTy) → slice_get (map (λ (y : TypedGlobal). y.var.ty) program.globals) g ≡ Some ty → unwrap_or (lookup (nat_eq g) (map (λ (y : core.GlobalTree). (y.id, y.var.ty)) (core_program program).globals)) (Int i.Int) ≡ ty
global_is program g ty h = ap (λ o. unwrap_or o (Int i.Int)) (global_from program.globals 0 g g (as_zero_plus g) ∙ h)

-- a function before the one that is looked for isn't it
not_found : (program : TypedTree) (n f : ℕ) (g : FunctionTree) (o : Option BodyTree) (rest : List core.FunctionTree) → n < f → find (λ (y : core.FunctionTree). nat_eq f y.id) (code_if program n g o ++ rest) ≡ find (λ (y : core.FunctionTree). nat_eq f y.id) rest
not_found program n f g None rest h = refl
not_found program n f g (Some body) rest h = ap (λ b. cond b (Some (core_of program n g body)) (find (λ (y : core.FunctionTree). nat_eq f y.id) rest)) (nat_eq_above f n h)

found_here : (program : TypedTree) (n f : ℕ) (g : FunctionTree) (o : Option BodyTree) (body : BodyTree) (rest : List core.FunctionTree) → f ≡ n → o ≡ Some body → find (λ (y : core.FunctionTree). nat_eq f y.id) (code_if program n g o ++ rest) ≡ Some (core_of program f g body)
found_here program n f g o body rest e is =
    ap (λ z. find (λ (y : core.FunctionTree). nat_eq f y.id) (code_if program n g z ++ rest)) is
    ∙ ap (λ b. cond b (Some (core_of program n g body)) (find (λ (y : core.FunctionTree). nat_eq f y.id) rest)) (nat_eq_true f n e) ∙ ap (λ z. Some (core_of program z g body)) (sym e)

function_from : (program : TypedTree) (xs : List FunctionTree) (n f k : ℕ) (g : FunctionTree) (body : BodyTree) → f ≡ n + k → slice_get xs k ≡ Some g → g.body ≡ Some body → find (λ (y : core.FunctionTree). nat_eq f y.id) (functions_from program n xs) ≡ Some (core_of program f g body)
function_from program [] n f k g body e is has = cc
function_from program (x ∷ xs) n f zero g body e is has =
    subst (λ z. find (λ (y : core.FunctionTree). nat_eq f y.id) (code_if program n z z.body ++ functions_from program (suc n) xs) ≡ Some (core_of program f g body)) (sym (same is))
    (found_here program n f g g.body body (functions_from program (suc n) xs) (omega (arith, e)) has)
  where
    same : Some x ≡ Some g → x ≡ g
    same h = cc
function_from program (x ∷ xs) n f (suc k) g body e is has =
    not_found program n f x x.body (functions_from program (suc n) xs) (omega (arith, e)) ∙ function_from program xs (suc n) f k g body (omega (arith, e)) is has

pub function_found : (program : TypedTree) (f : ℕ) (g : FunctionTree) (body : BodyTree) → slice_get program.functions f ≡ Some g → g.body ≡ Some body → function_in (core_program program) f ≡ core_of program f g body
function_found program f g body h is = ap (λ o. unwrap_or o no_function) (function_from program program.functions 0 f f g body (as_zero_plus f) h is)

-- ---- variables and temporaries

abbrev pub all_types : List Var → List Temp → List VarTy
all_types vars temps = map (λ (y : Var). y.ty) (vars ++ map variable_of temps)

pub own_types : (vars : List Var) (temps : List Temp) (k : ℕ) (ty : VarTy) → slice_get (map (λ (y : Var). y.ty) vars) k ≡ Some ty → type_at (all_types vars temps) k ≡ ty
own_types [] temps k ty h = cc
own_types (x ∷ xs) temps zero ty h = same h
  where
    same : Some x.ty ≡ Some ty → x.ty ≡ ty
    same e = cc
own_types (x ∷ xs) temps (suc k) ty h = own_types xs temps k ty h

pub temps_there : (before : List VarTy) (temps : List Temp) (types : List VarTy) (n : ℕ) → n ≡ length before → types ≡ before ++ map (λ (y : Var). y.ty) (map variable_of temps) → HasTemps types n temps
temps_there before [] types n e is = tt
temps_there before (x ∷ xs) types n e is = (
  ap (λ z. slice_get z n) is ∙ at_end before x.ty (map (λ (y : Var). y.ty) (map variable_of xs)) n e,
  temps_there (before ++ x.ty ∷ []) xs types (suc n) (next before x.ty n e) (is ∙ shifted before x.ty (map (λ (y : Var). y.ty) (map variable_of xs))),
)
  where
    at_end : (before : List VarTy) (u : VarTy) (rest : List VarTy) (n : ℕ) → n ≡ length before → slice_get (before ++ u ∷ rest) n ≡ Some u
    at_end [] u rest n e = ap (λ z. slice_get (u ∷ rest) z) e
    at_end (b ∷ before) u rest zero e = absurd (no_zero (length before) e)
      where
        no_zero : (k : ℕ) → 0 ≡ suc k → ⊥
        no_zero k h = omega (arith, h)
    at_end (b ∷ before) u rest (suc n) e = at_end before u rest n (omega (arith, e))

    next : (before : List VarTy) (u : VarTy) (n : ℕ) → n ≡ length before → suc n ≡ length (before ++ u ∷ [])
    next [] u n e = omega (arith, e)
    next (b ∷ before) u zero e = absurd (no_zero (length before) e)
      where
        no_zero : (k : ℕ) → 0 ≡ suc k → ⊥
        no_zero k h = omega (arith, h)
    next (b ∷ before) u (suc n) e = ap suc (next before u n (omega (arith, e)))

    shifted : (before : List VarTy) (u : VarTy) (rest : List VarTy) → before ++ u ∷ rest ≡ (before ++ u ∷ []) ++ rest
    shifted [] u rest = refl
    shifted (b ∷ before) u rest = ap (λ z. b ∷ z) (shifted before u rest)

map_append : (xs ys : List Var) → map (λ (y : Var). y.ty) (xs ++ ys) ≡ map (λ (y : Var). y.ty) xs ++ map (λ (y : Var). y.ty) ys
map_append [] ys = refl
map_append (x ∷ xs) ys = ap (λ z. x.ty ∷ z) (map_append xs ys)

length_types : (xs : List Var) → length xs ≡ length (map (λ (y : Var). y.ty) xs)
length_types [] = refl
length_types (x ∷ xs) = ap suc (length_types xs)

pub has_temps : (vars : List Var) (temps : List Temp) → HasTemps (all_types vars temps) (length vars) temps
has_temps vars temps = temps_there (map (λ (y : Var). y.ty) vars) temps (all_types vars temps) (length vars) (length_types vars) (map_append vars (map variable_of temps))

-- ---- the end of a body

pub no_end : (s : Signature) → IsTrue (not (is_main s)) → main_end s ≡ []
no_end s h = go (is_main s) h
  where
    go : (b : Bool) → not b ≡ true → (if b then core.give_back (Some (core.constant i.Int (pos 0))) ∷ [] else []) ≡ []
    go false h = refl
    go true h = cc
