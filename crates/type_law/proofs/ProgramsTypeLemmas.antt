-- Good types, and what the typed tree makes of them.
use Rattle.std.proofs.Common.{◌≡◌, ◌+◌, ◌++◌, ◌∙◌, sym, ap, subst, refl, ℕ, zero, suc, Bool, true, false, List, [], ◌∷◌, length, arith, map, Some, nat_eq}
use Rattle.std.specs.Prelude.{IsTrue, ◌&&◌, slice_get, option_map}
use Rattle.std.specs.List.{list_all}
use Rattle.std.proofs.lemmas.Bool.Decides.{nat_tests}
use Rattle.pt_base.proofs.Booleans.{both_hold, both_hold_first, both_hold_second}
use Rattle.pt_tree.specs.declared.signature.Param.{Param}
use Rattle.type_rules.specs.declared.types.Type.{«Type»}
use Rattle.type_rules.specs.declared.types.Type.TheVariants.{Bad, Void, Int, Struct, Array, Pointer}
use Rattle.type_rules.specs.Types.{is_bad, is_integer, is_same_elem}
use Rattle.type_rules.proofs.TypeLemmas.{same_int, same_elem}
use Rattle.typed_tree.specs.declared.types.StructInfo.{StructInfo}
use Rattle.typed_tree.specs.declared.types.VarTy.TheVariants as v
use Rattle.typed_tree.specs.Cells.{leaves_of}
use Rattle.typed_tree.specs.TypeTests as typed
use Rattle.typed_tree.specs.WellFormedExpression.{param_type}
use Rattle.typed_tree.specs.WellFormed.{is_small, params_lead, is_integer_param}
use Rattle.check_declarations.specs.declared.marks.Marks.{Marks}
use Rattle.check_expressions.specs.declared.meaning.Variable.{Variable}
use Rattle.check_expressions.specs.Operands.{var_type}
use Rattle.check_expressions.specs.StructInfos.{object_type_of}
use Rattle.type_law.specs.DeclarationsTypes.{is_plain, is_parameter, is_result}
use Rattle.type_law.specs.ExpressionsAgreement.{taken}
use Rattle.check_programs.specs.Functions.{agree, all_agree, var_of, param_of, params_of}
use Rattle.check_programs.specs.Progress.{result_type_of}
use Rattle.check_programs.specs.Unions.{marks_at}
use Rattle.typed_tree.proofs.SameTypes.{bool_self, type_self}
use Rattle.type_law.proofs.DeclarationsGoodTypes.{parameter_variable}
use Rattle.type_law.proofs.StatementsTypeLemmas.{has_object_type}

pub parameter_fine : (n : ℕ) (x : «Type») → IsTrue (is_parameter n x) → is_bad x ≡ false
parameter_fine n Bad i = cc
parameter_fine n Void i = refl
parameter_fine n (Int x) i = refl
parameter_fine n (Struct k) i = refl
parameter_fine n (Array e count) i = refl
parameter_fine n (Pointer e fixed) i = refl

pub result_fine : (x : «Type») → IsTrue (is_result x) → is_bad x ≡ false
result_fine Bad i = cc
result_fine Void i = refl
result_fine (Int x) i = refl
result_fine (Struct k) i = refl
result_fine (Array e count) i = refl
result_fine (Pointer e fixed) i = refl

pub plain_fine : (n : ℕ) (x : «Type») → IsTrue (is_plain n x) → is_bad x ≡ false
plain_fine n Bad i = cc
plain_fine n Void i = refl
plain_fine n (Int x) i = refl
plain_fine n (Struct k) i = refl
plain_fine n (Array e count) i = refl
plain_fine n (Pointer e fixed) i = refl

-- ---- as the typed tree has them

pub parameter_small : (structs : List StructInfo) (n : ℕ) (x : «Type») → IsTrue (is_parameter n x) → IsTrue (is_small structs (object_type_of x))
unfolding var_type leaves_of
parameter_small structs n Bad i = cc
parameter_small structs n Void i = cc
parameter_small structs n (Int x) i = refl
parameter_small structs n (Struct k) i = cc
parameter_small structs n (Array e count) i = cc
parameter_small structs n (Pointer e fixed) i = refl

pub result_given : (x : «Type») → IsTrue (is_result x) → option_map v.Int (result_type_of x) ≡ var_type x
unfolding var_type
result_given Bad i = refl
result_given Void i = refl
result_given (Int x) i = refl
result_given (Struct k) i = cc
result_given (Array e count) i = cc
result_given (Pointer e fixed) i = cc

param_taken : (m : Marks) (n : ℕ) (x : «Type») → IsTrue (is_parameter n x) → taken (param_of m x) ≡ var_type x
unfolding var_type
param_taken m n Bad i = cc
param_taken m n Void i = cc
param_taken m n (Int x) i = refl
param_taken m n (Struct k) i = cc
param_taken m n (Array e count) i = cc
param_taken m n (Pointer e fixed) i = refl

-- ---- types that agree

bools_same : (a b : Bool) → IsTrue (typed.same_bool a b) → a ≡ b
bools_same true b h = sym h
bools_same false true h = cc
bools_same false false h = refl

pub agree_same : (a b : «Type») → is_bad a ≡ false → is_bad b ≡ false → agree a b ≡ true → a ≡ b
agree_same Void Void g h e = refl
agree_same (Int x) (Int y) g h e = ap Int (same_int x y e)
agree_same (Struct m) (Struct n) g h e = let is : m ≡ n = grind (arith, nat_tests) in ap Struct is
agree_same (Array d few) (Array e count) g h i =
    let one = same_elem d e (both_hold_first (is_same_elem d e) (nat_eq few count) i) in
    let many : nat_eq few count ≡ true = both_hold_second (is_same_elem d e) (nat_eq few count) i in
    let is : few ≡ count = grind (arith, nat_tests) in
    ap (λ x. Array x few) one ∙ ap (Array e) is
agree_same (Pointer d a) (Pointer e b) g h i =
    let one = same_elem d e (both_hold_first (is_same_elem d e) (typed.same_bool a b) i) in
    ap (λ x. Pointer x a) one ∙ ap (Pointer e) (bools_same a b (both_hold_second (is_same_elem d e) (typed.same_bool a b) i))
agree_same a b g h e = cc

pub all_agree_same : (n : ℕ) (xs ys : List «Type») → IsTrue (list_all (is_parameter n) xs) → IsTrue (list_all (is_parameter n) ys) → all_agree xs ys ≡ true → xs ≡ ys
all_agree_same n [] [] g h e = refl
all_agree_same n [] (y ∷ ys) g h e = cc
all_agree_same n (x ∷ xs) [] g h e = cc
all_agree_same n (x ∷ xs) (y ∷ ys) g h e =
    let one = agree_same x y (parameter_fine n x (both_hold_first (is_parameter n x) (list_all (is_parameter n) xs) g)) (parameter_fine n y (both_hold_first (is_parameter n y) (list_all (is_parameter n) ys) h)) (both_hold_first (agree x y) (all_agree xs ys) e) in
    let rest = all_agree_same n xs ys (both_hold_second (is_parameter n x) (list_all (is_parameter n) xs) g) (both_hold_second (is_parameter n y) (list_all (is_parameter n) ys) h) (both_hold_second (agree x y) (all_agree xs ys) e) in
    ap (λ z. z ∷ xs) one ∙ ap (λ zs. y ∷ zs) rest

-- ---- parameters

pub params_taken : (ms : List Marks) (k n : ℕ) (xs : List «Type») → IsTrue (list_all (is_parameter n) xs) → map taken (params_of ms k xs) ≡ map var_type xs
params_taken ms k n [] h = refl
params_taken ms k n (x ∷ xs) h =
    ap (λ o. o ∷ map taken (params_of ms (k + 1) xs)) (param_taken (marks_at ms k) n x (both_hold_first (is_parameter n x) (list_all (is_parameter n) xs) h))
    ∙ ap (λ os. var_type x ∷ os) (params_taken ms (k + 1) n xs (both_hold_second (is_parameter n x) (list_all (is_parameter n) xs) h))

pub params_many : (ms : List Marks) (k : ℕ) (xs : List «Type») → length (params_of ms k xs) ≡ length xs
params_many ms k [] = refl
params_many ms k (x ∷ xs) = ap suc (params_many ms (k + 1) xs)

-- each parameter has the marks of its position
pub params_marked : (ms : List Marks) (k : ℕ) (xs : List «Type») (j : ℕ) (p : Param) → slice_get (params_of ms k xs) j ≡ Some p → p.marked ≡ (marks_at ms (k + j)).marked
params_marked ms k [] j p h = cc
params_marked ms k (x ∷ xs) zero p h =
    let same : param_of (marks_at ms k) x ≡ p = cc in
    ap (λ (q : Param). q.marked) (sym same) ∙ ap (λ i. (marks_at ms i).marked) (let e : k ≡ k + 0 = omega arith in e)
params_marked ms k (x ∷ xs) (suc j) p h = params_marked ms (k + 1) xs j p h ∙ ap (λ i. (marks_at ms i).marked) (let e : (k + 1) + j ≡ k + suc j = omega arith in e)

-- the variables begin with those of the parameters
pub params_lead_vars : (n : ℕ) (ps : List Param) (xs new : List Variable) → IsTrue (list_all (is_parameter n) (map (λ x. x.ty) xs)) → map taken ps ≡ map var_type (map (λ x. x.ty) xs)
    → ((j : ℕ) (p : Param) (x : Variable) → slice_get ps j ≡ Some p → slice_get xs j ≡ Some x → p.marked ≡ x.marked) → IsTrue (params_lead ps (map var_of (xs ++ new)))
params_lead_vars n [] xs new h e m = refl
params_lead_vars n (p ∷ ps) [] new h e m = cc
params_lead_vars n (p ∷ ps) (x ∷ xs) new h e m =
    let first : Some (param_type p.kind) ≡ var_type x.ty = cc in
    let rest : map taken ps ≡ map var_type (map (λ x. x.ty) xs) = cc in
    let good = parameter_variable n x.ty (both_hold_first (is_parameter n x.ty) (list_all (is_parameter n) (map (λ x. x.ty) xs)) h) in
    let there = sym (has_object_type n x.ty good) in
    let same : param_type p.kind ≡ object_type_of x.ty = cc in
    let type = subst (λ z. IsTrue (typed.same_type (param_type p.kind) z)) same (type_self (param_type p.kind)) in
    let mark = subst (λ b. IsTrue (typed.same_bool p.marked b)) (m 0 p x refl refl) (bool_self p.marked) in
    both_hold (typed.same_type (param_type p.kind) (object_type_of x.ty) && typed.same_bool p.marked x.marked) (params_lead ps (map var_of (xs ++ new)))
    (both_hold (typed.same_type (param_type p.kind) (object_type_of x.ty)) (typed.same_bool p.marked x.marked) type mark)
    (params_lead_vars n ps xs new (both_hold_second (is_parameter n x.ty) (list_all (is_parameter n) (map (λ x. x.ty) xs)) h) rest (λ j q y a b. m (suc j) q y a b))

integer_taken : (m : Marks) (x : «Type») → IsTrue (is_integer x) → IsTrue (is_integer_param (param_of m x))
integer_taken m Bad i = cc
integer_taken m Void i = cc
integer_taken m (Int x) i = refl
integer_taken m (Struct k) i = cc
integer_taken m (Array e count) i = cc
integer_taken m (Pointer e fixed) i = cc

pub integers_taken : (ms : List Marks) (k : ℕ) (xs : List «Type») → IsTrue (list_all is_integer xs) → IsTrue (list_all is_integer_param (params_of ms k xs))
integers_taken ms k [] h = refl
integers_taken ms k (x ∷ xs) h =
    both_hold _ _ (integer_taken (marks_at ms k) x (both_hold_first (is_integer x) (list_all is_integer xs) h)) (integers_taken ms (k + 1) xs (both_hold_second (is_integer x) (list_all is_integer xs) h))
