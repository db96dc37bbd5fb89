-- Calls without a fault: each argument fits its parameter, and the result is the function's.
use Rattle.std.proofs.Common.{◌≡◌, ◌∙◌, ◌≤◌, ◌+◌, ℕ, suc, refl, ap, sym, subst, List, [], ◌∷◌, Bool, true, false, Option, Some, None, length, map, arith}
use Rattle.std.specs.Prelude.{⊤, IsTrue, not, slice_get, option_map, nat_lt, nat_eq, codes, if◌then◌else◌}
use Rattle.std.specs.List.{list_all}
use Rattle.std.specs.Str.{bytes_eq}
use Rattle.pt_base.specs.declared.span.Span.{Span}
use Rattle.pt_base.specs.declared.ids.FnId.{FnId}
use Rattle.pt_base.proofs.Booleans.{both_hold}
use Rattle.pt_base.proofs.Numbers.{nat_eq_same}
use Rattle.pt_tree.specs.declared.signature.Param.{Param}
use Rattle.type_rules.specs.declared.types.Type.{«Type»}
use Rattle.type_rules.specs.declared.types.Type.TheVariants.{Bad, Void, Int, Struct, Array, Pointer}
use Rattle.type_rules.specs.declared.types.Value.{Value}
use Rattle.type_rules.specs.Conversions.{fit_rule, is_wrong}
use Rattle.type_rules.specs.Types.{is_bad, value_type}
use Rattle.typed_tree.specs.declared.types.VarTy.TheVariants as v
use Rattle.typed_tree.specs.ExpressionTree.{ExprTree, expr_trees}
use Rattle.typed_tree.specs.TypeTests as test
use Rattle.typed_tree.specs.WellFormedExpression.{Names, is_typed, ty_of, param_type, arguments_fit, all_typed, call_fits}
use Rattle.typed_tree.specs.WellFormedExpression as w
use Rattle.check_declarations.specs.declared.fault.FaultKind.TheVariants.{WrongType, OutOfProfile, ArgCount}
use Rattle.check_declarations.specs.Faults.{fault_at, fault_if}
use Rattle.check_declarations.specs.Objects.{is_struct}
use Rattle.check_declarations.specs.Structs.{Structs}
use Rattle.check_expressions.specs.declared.meaning.Callable.{Callable}
use Rattle.check_expressions.specs.Environment.{Env}
use Rattle.check_expressions.specs.Operands.{var_type, plain, fine, refused}
use Rattle.check_expressions.specs.Postfixes.{is_main, function_params, params_of, params_for, argument_tree, argument_faults, call_tree, call_of, called_function, called_other, called}
use Rattle.type_law.specs.DeclarationsTypes.{is_parameter, is_result}
use Rattle.type_law.specs.ExpressionsAgreement.{HasCallable, Agrees, taken}
use Rattle.type_law.specs.ExpressionsLaws.{SoundValue, Fitted}
use Rattle.type_law.proofs.ExpressionsSameTypes.{same_types-equal}
use Rattle.type_law.proofs.ExpressionsFits.{values_fit}
use Rattle.type_law.proofs.ExpressionsKnown.{SoundKnown, plain_sound}
use Rattle.type_law.proofs.DeclarationsFaultLemmas.{no_fault}
use Rattle.type_law.proofs.DeclarationsGoodTypes.{parameter_variable, result_good}
use Rattle.type_law.proofs.ExpressionsNames.{there}

-- ---- arguments

-- each argument is well formed, and fits its parameter where there is one
abbrev pub Passed : Names → List «Type» → List ExprTree → Type 0
Passed n params [] = ⊤
Passed n [] (x ∷ xs) = IsTrue (is_typed n x) × Passed n [] xs
Passed n (t ∷ params) (x ∷ xs) = Fitted n t x × Passed n params xs

-- the parameters from number k on
pub FromOn : List «Type» → ℕ → List «Type» → Type 0
FromOn params k rest = (i : ℕ) → slice_get params (k + i) ≡ slice_get rest i

pub from_here : (params : List «Type») (k : ℕ) (rest : List «Type») → FromOn params k rest → slice_get params k ≡ slice_get rest 0
unfolding FromOn
from_here params k rest h = let e : k ≡ k + 0 = omega arith in ap (λ i. slice_get params i) e ∙ h 0

pub from_next : (params : List «Type») (k : ℕ) (t : «Type») (rest : List «Type») → FromOn params k (t ∷ rest) → FromOn params (k + 1) rest
unfolding FromOn
from_next params k t rest h i = let e : (k + 1) + i ≡ k + suc i = omega arith in ap (λ j. slice_get params j) e ∙ h (suc i)

pub from_none : (params : List «Type») (k : ℕ) → FromOn params k [] → FromOn params (k + 1) []
unfolding FromOn
from_none params k h i = let e : (k + 1) + i ≡ k + suc i = omega arith in ap (λ j. slice_get params j) e ∙ h (suc i)

pub from_start : (params : List «Type») → FromOn params 0 params
unfolding FromOn
from_start params i = let e : 0 + i ≡ i = omega arith in ap (λ j. slice_get params j) e

pub argument_fits : (n : Names) (structs : ℕ) (o : Option «Type») (t : «Type») (w : Value) (x : ExprTree) (at : Span) → structs ≤ length n.structs → o ≡ Some t → IsTrue (is_parameter structs t) → SoundValue n structs w x → argument_faults o w at ≡ [] → Fitted n t (argument_tree o w x)
unfolding argument_faults argument_tree
argument_fits n structs o t w x at below e p h z =
    let y : fault_if (is_wrong (fit_rule t w)) WrongType at ≡ [] = subst (λ u. argument_faults u w at ≡ []) e z in
    subst (λ u. Fitted n t (argument_tree u w x)) (sym e) (values_fit n structs t w x h (parameter_variable structs t p) below (no_fault (is_wrong (fit_rule t w)) WrongType at y))

pub argument_typed : (n : Names) (structs : ℕ) (o : Option «Type») (w : Value) (x : ExprTree) → o ≡ None → SoundValue n structs w x → IsTrue (is_typed n (argument_tree o w x))
unfolding argument_tree
argument_typed n structs o w x e h = subst (λ u. IsTrue (is_typed n (argument_tree u w x))) (sym e) h.typed

-- ---- all arguments against the signature

record AllFit (n : Names) (ps : List Param) (xs : List ExprTree) : Type 0 where
  typed : IsTrue (all_typed n (expr_trees xs))
  fit : IsTrue (arguments_fit ps (expr_trees xs))

first_same : {X : Type 0} (a b : X) (xs ys : List X) → a ∷ xs ≡ b ∷ ys → (a ≡ b) × (xs ≡ ys)
first_same a b xs ys h = (cc, cc)

all_fit : (n : Names) (ps : List Param) (ts : List «Type») (xs : List ExprTree) → map taken ps ≡ map var_type ts → length xs ≡ length ts → Passed n ts xs → AllFit n ps xs
all_fit n [] [] [] e l h = record { typed = refl; fit = refl }
all_fit n [] [] (x ∷ xs) e l h = absurd (omega arith)
all_fit n [] (t ∷ ts) xs e l h = cc
all_fit n (p ∷ ps) [] xs e l h = cc
all_fit n (p ∷ ps) (t ∷ ts) [] e l h = absurd (omega arith)
all_fit n (p ∷ ps) (t ∷ ts) (x ∷ xs) e l h =
    let same = first_same (taken p) (var_type t) (map taken ps) (map var_type ts) e in
    let rest = all_fit n ps ts xs same.1 (omega arith) h.1 in
    record {
      typed = both_hold (is_typed n x) _ h.0.typed rest.typed;
      fit = both_hold (test.same_types (ty_of x) (Some (param_type p.kind))) _ (same_types-equal _ _ (h.0.has ∙ sym same.0)) rest.fit;
    }

-- ---- the call

result_whole : (t : «Type») → IsTrue (is_result t) → value_type t false ≡ t
result_whole Bad h = cc
result_whole Void h = refl
result_whole (Int t) h = refl
result_whole (Struct m) h = cc
result_whole (Array e c) h = cc
result_whole (Pointer e f) h = cc

result_plain : {X : Type 0} (t : «Type») → IsTrue (is_result t) → is_struct t ≡ true → X
result_plain Bad h k = cc
result_plain Void h k = cc
result_plain (Int t) h k = cc
result_plain (Struct m) h k = cc
result_plain (Array e c) h k = cc
result_plain (Pointer e f) h k = cc

call_typed : (n : Names) (structs : ℕ) (c : Callable) (f : FnId) (s : Span) (trees : List ExprTree) → HasCallable structs c (slice_get n.signatures f.0) → is_main c.name ≡ false → length trees ≡ length c.params → Passed n c.params trees → SoundKnown n structs (plain c.result (call_tree s c.result f trees))
unfolding is_main
call_typed n structs c f s trees h m l p =
    let a = all_fit n h.signature.params c.params trees h.takes l p in
    let named : w.is_main h.signature ≡ false = ap (λ x. bytes_eq x (codes "main")) h.name ∙ m in
    let fits : IsTrue (call_fits (Some h.signature) (expr_trees trees) (var_type c.result)) =
    both_hold (not (w.is_main h.signature)) _ (ap not named)
    (both_hold (arguments_fit h.signature.params (expr_trees trees)) _ a.fit (same_types-equal (var_type c.result) (option_map v.Int h.signature.result) (sym h.gives))) in
    plain_sound n structs c.result (call_tree s c.result f trees)
    (record { typed = both_hold (all_typed n (expr_trees trees)) _ a.typed (ap (λ o. call_fits o (expr_trees trees) (var_type c.result)) h.is ∙ fits); has = refl })
    (result_good structs c.result h.result) (result_whole c.result h.result) (λ k. result_plain c.result h.result k)

call_of_sound : (n : Names) (structs : ℕ) (c : Callable) (f : FnId) (s : Span) (trees : List ExprTree) → HasCallable structs c (slice_get n.signatures f.0) → Passed n (function_params c) trees → (call_of c s f trees).faults ≡ [] → SoundKnown n structs (call_of c s f trees).operand
unfolding call_of function_params
call_of_sound n structs c f s trees h p z = by_tests (is_main c.name) (nat_eq (length trees) (length c.params)) refl refl p z
  where
    by_tests : (b d : Bool) → is_main c.name ≡ b → nat_eq (length trees) (length c.params) ≡ d → Passed n (if b then [] else c.params) trees → (if b then refused (fault_at OutOfProfile s ∷ []) else if d then fine (plain c.result (call_tree s c.result f trees)) else refused (fault_at ArgCount s ∷ [])).faults ≡ [] → SoundKnown n structs (if b then refused (fault_at OutOfProfile s ∷ []) else if d then fine (plain c.result (call_tree s c.result f trees)) else refused (fault_at ArgCount s ∷ [])).operand
    by_tests true d e g q y = cc
    by_tests false true e g q y = call_typed n structs c f s trees h e (nat_eq_same (length trees) (length c.params) g) q
    by_tests false false e g q y = cc

pub called_sound : (n : Names) (env : Env) (structs : Structs) → Agrees env structs n → (f : FnId) (ty : «Type») (s : Span) (trees : List ExprTree) → IsTrue (nat_lt f.0 (length env.functions)) → Passed n (params_for env (Some f)) trees → (called env (Some f) ty s trees).faults ≡ [] → SoundKnown n (length structs) (called env (Some f) ty s trees).operand
unfolding called called_function params_for params_of
called_sound n env structs h f ty s trees i p z =
    let c = there env.functions f.0 i in
    let p' = subst (λ o. Passed n (params_of o) trees) c.1 p in
    let z' = subst (λ o. (called_function o s f trees).faults ≡ []) c.1 z in
    subst (λ o. SoundKnown n (length structs) (called_function o s f trees).operand) (sym c.1) (call_of_sound n (length structs) c.0 f s trees (h.functions f.0 c.0 c.1) p' z')

called_other_faults : {X : Type 0} (t : «Type») (s : Span) → is_bad t ≡ false → (called_other t s).faults ≡ [] → X
unfolding called_other
called_other_faults Bad s h z = cc
called_other_faults Void s h z = cc
called_other_faults (Int t) s h z = cc
called_other_faults (Struct m) s h z = cc
called_other_faults (Array e c) s h z = cc
called_other_faults (Pointer e f) s h z = cc

-- what is no function isn't called without a fault
pub no_call : {X : Type 0} (env : Env) (t : «Type») (s : Span) (trees : List ExprTree) → is_bad t ≡ false → (called env None t s trees).faults ≡ [] → X
unfolding called
no_call env t s trees h z = called_other_faults t s h z

-- the parameters of a function that is called are parameters
pub params_are : (n : Names) (env : Env) (structs : Structs) → Agrees env structs n → (f : FnId) → IsTrue (nat_lt f.0 (length env.functions)) → IsTrue (list_all (is_parameter (length structs)) (params_for env (Some f)))
unfolding params_for params_of function_params
params_are n env structs h f i =
    let c = there env.functions f.0 i in
    subst (λ o. IsTrue (list_all (is_parameter (length structs)) (params_of o))) (sym c.1) (by_name (is_main c.0.name) c.0 (h.functions f.0 c.0 c.1).params)
  where
    by_name : (b : Bool) (c : Callable) → IsTrue (list_all (is_parameter (length structs)) c.params) → IsTrue (list_all (is_parameter (length structs)) (if b then [] else c.params))
    by_name true c p = refl
    by_name false c p = p
